-- Things made one after the other, each of what stands in its place in two lists.
use Rattle.std.proofs.Common.{◌≡◌, ◌⊎◌, ℕ, suc, List, [], ◌∷◌, ◌++◌, length, append_assoc, refl, sym, ap, ◌∙◌, subst, ⊎_elim, arith}
use Rattle.std.specs.Prelude.{Contains}
use Rattle.std.proofs.lemmas.List.{append-nil}
use Rattle.cedar_expr_model.proofs.Lists.{contains_head, contains_tail, contains_cases, contains_none}
use Rattle.cedar_schema_resolver.specs.Numbers.{IsAt}
use Rattle.cedar_schema_assembly.specs.Made.{AreMade}

-- What is made so far, and then what is made of the rest, is made of all.
pub record MadeSoFar {E B T : Type 0} (made : E → B → T → Type 0) (es er : List E) (bs br : List B) (ts : List T) : Type 0 where
  pub goes : (us : List T) → AreMade made er br us → AreMade made es bs (ts ++ us)
  pub even : length er ≡ length br
  pub pairs : (i : ℕ) (e : E) (b : B) → IsAt er i e → IsAt br i b → (j : ℕ) × IsAt es j e × IsAt bs j b

later : {X : Type 0} (x : X) (xs : List X) (i : ℕ) (y : X) → IsAt xs i y → IsAt (x ∷ xs) (suc i) y
later x xs i y h = let l = h.0 in (omega (arith, l), h.1)

module _ {E B T : Type 0} (made : E → B → T → Type 0) (es : List E) (bs : List B) where
  pub none_made : length es ≡ length bs → (er : List E) (br : List B) → er ≡ es → br ≡ bs → (ts : List T) → ts ≡ [] → MadeSoFar made es er bs br ts
  none_made n er br q r ts e = subst (λ x. MadeSoFar made es x bs br ts) (sym q) (subst (λ x. MadeSoFar made es es bs x ts) (sym r) (record {
    goes = λ us h. subst (λ x. AreMade made es bs (x ++ us)) (sym e) h;
    even = n;
    pairs = λ i d b h k. (i, h, k);
  }))

  pub pair_here : (er fr : List E) (br cr : List B) (ts : List T) (e : E) (b : B) → er ≡ e ∷ fr → br ≡ b ∷ cr → MadeSoFar made es er bs br ts → (j : ℕ) × IsAt es j e × IsAt bs j b
  pair_here er fr br cr ts e b q r m = m.pairs 0 e b (subst (λ x. IsAt x 0 e) (sym q) (omega arith, refl)) (subst (λ x. IsAt x 0 b) (sym r) (omega arith, refl))

  pub one_made : (er fr : List E) (br cr : List B) (ts us : List T) (e : E) (b : B) (t : T) → er ≡ e ∷ fr → br ≡ b ∷ cr → us ≡ ts ++ t ∷ [] → made e b t → MadeSoFar made es er bs br ts → MadeSoFar made es fr bs cr us
  one_made er fr br cr ts us e b t q r p h m =
      let even = m.even in
      let lq = ap length q in
      let lr = ap length r in
      record {
        goes = λ vs k.
            subst (AreMade made es bs) (sym (append_assoc ts (t ∷ []) vs) ∙ ap (λ x. x ++ vs) (sym p))
            (m.goes (t ∷ vs) (subst (λ x. AreMade made x br (t ∷ vs)) (sym q) (subst (λ x. AreMade made (e ∷ fr) x (t ∷ vs)) (sym r) (h, k))));
        even = omega (arith, even, lq, lr);
        pairs = λ i d c x y. m.pairs (suc i) d c (subst (λ z. IsAt z (suc i) d) (sym q) (later e fr i d x)) (subst (λ z. IsAt z (suc i) c) (sym r) (later b cr i c y));
      }

  nil : {X : Type 0} (xs : List X) → length xs ≡ 0 → xs ≡ []
  nil [] e = refl
  nil (x ∷ xs) e = absurd (omega (arith, e))

  pub all_made : (er : List E) (br : List B) (ts : List T) → (er ≡ []) ⊎ (br ≡ []) → MadeSoFar made es er bs br ts → AreMade made es bs ts
  all_made er br ts d m =
      let even = m.even in
      let none : er ≡ [] = ⊎_elim (λ q. q) (λ r. nil er (even ∙ ap length r)) d in
      subst (AreMade made es bs) (append-nil ts) (m.goes [] (subst (λ x. AreMade made x br []) (sym none) tt))

-- each is made of some place, and of each place one is made
module _ {E B T : Type 0} (made : E → B → T → Type 0) where
  pub made_from : (es : List E) (bs : List B) (ts : List T) → AreMade made es bs ts → (t : T) → Contains ts t → (i : ℕ) × ((e : E) × ((b : B) × IsAt es i e × IsAt bs i b × made e b t))
  made_from [] bs [] h t c = absurd (contains_none t c)
  made_from [] bs (x ∷ ts) h t c = absurd h
  made_from (e ∷ es) [] ts h t c = absurd h
  made_from (e ∷ es) (b ∷ bs) [] h t c = absurd h
  made_from (e ∷ es) (b ∷ bs) (x ∷ ts) h t c =
      contains_cases ((i : ℕ) × ((d : E) × ((k : B) × IsAt (e ∷ es) i d × IsAt (b ∷ bs) i k × made d k t))) x ts t c
      (λ q. (0, (e, (b, (omega arith, refl), (omega arith, refl), subst (made e b) q h.0))))
      (λ k. let r = made_from es bs ts h.1 t k in (suc r.0, (r.1.0, (r.1.1.0, later e es r.0 r.1.0 r.1.1.1, later b bs r.0 r.1.1.0 r.1.1.2, r.1.1.3))))

  pub made_of : (es : List E) (bs : List B) (ts : List T) → AreMade made es bs ts → (e : E) → Contains es e → (t : T) × ((i : ℕ) × ((b : B) × Contains ts t × IsAt es i e × IsAt bs i b × made e b t))
  made_of [] bs ts h e c = absurd (contains_none e c)
  made_of (x ∷ es) [] ts h e c = absurd h
  made_of (x ∷ es) (b ∷ bs) [] h e c = absurd h
  made_of (x ∷ es) (b ∷ bs) (t ∷ ts) h e c =
      contains_cases ((u : T) × ((i : ℕ) × ((k : B) × Contains (t ∷ ts) u × IsAt (x ∷ es) i e × IsAt (b ∷ bs) i k × made e k u))) x es e c
      (λ q. (t, (0, (b, contains_head t ts, (omega arith, q), (omega arith, refl), subst (λ z. made z b t) q h.0))))
      (λ k. let r = made_of es bs ts h.1 e k in (r.0, (suc r.1.0, (r.1.1.0, contains_tail t ts r.0 r.1.1.1, later x es r.1.0 e r.1.1.2, later b bs r.1.0 r.1.1.0 r.1.1.3, r.1.1.4))))
