-- The first double colon of a text ends its first part.
use Rattle.std.proofs.Common.{◌≡◌, ◌≢◌, ℕ, zero, suc, ◌<◌, ◌≤◌, true, false, cond, eqb, ◌&&◌, [], ◌∷◌, ◌++◌, length, take, drop, refl, sym, ap, ◌∙◌, arith, Option, Some, None, Bor, MatchOption}
use Rattle.std.proofs.lemmas.Bool.Decides.{nat_tests}
use Rattle.std.specs.Str.Pattern.{FindsText, SplitsAroundMatch}
use Rattle.cedar_expr_model.specs.Name.{Text, colons, parts, with_byte}

-- where no double colon begins a text, its first byte stands in its first part
steps : (b c : ℕ) (bs : Text) → ((r : Text) → b ∷ c ∷ bs ≢ colons ++ r) → parts (b ∷ c ∷ bs) ≡ with_byte b (parts (c ∷ bs))
steps b c bs lacks =
    elim (eqb b 58 && eqb c 58) as (λ t. (eqb b 58 && eqb c 58) ≡ t → cond t ([] ∷ parts bs) (with_byte b (parts (c ∷ bs))) ≡ with_byte b (parts (c ∷ bs))) [
      | true ↦ λ e. absurd (lacks bs (grind (arith, nat_tests)))
      | false ↦ λ e. refl
    ] refl

-- a text without a double colon is one part
pub one_part : (t : Text) → ((k : ℕ) → k ≤ length t → (r : Text) → drop k t ≢ colons ++ r) → parts t ≡ t ∷ []
one_part [] lacks = refl
one_part (b ∷ []) lacks = refl
one_part (b ∷ c ∷ bs) lacks =
    steps b c bs (lacks 0 (omega arith)) ∙ ap (with_byte b) (one_part (c ∷ bs) (λ k h r e. lacks (suc k) (omega (arith, h)) r e))

drop_nil : (i : ℕ) → drop {A = ℕ} i [] ≡ []
drop_nil zero = refl
drop_nil (suc i) = refl

-- the first double colon ends the first part
pub first_part : (t : Text) (i : ℕ) (rest : Text) → ((k : ℕ) → k < i → (r : Text) → drop k t ≢ colons ++ r) → drop i t ≡ colons ++ rest → parts t ≡ take i t ∷ parts rest
first_part t zero rest lacks e = ap parts e
first_part [] (suc i) rest lacks e = absurd (cc)
first_part (b ∷ []) (suc i) rest lacks e = absurd (let q : [] ≡ colons ++ rest = sym (drop_nil i) ∙ e in cc)
first_part (b ∷ c ∷ bs) (suc i) rest lacks e =
    steps b c bs (lacks 0 (omega arith)) ∙ ap (with_byte b) (first_part (c ∷ bs) i rest (λ k h r q. lacks (suc k) (omega (arith, h)) r q) e)

-- what a split at the first double colon gives
pub split_is : (t : Text) (r : Option (Bor Text × Bor Text)) → MatchOption r (FindsText colons t None) (λ x. SplitsAroundMatch (FindsText colons) t x.0.now x.1.now) → MatchOption r (parts t ≡ t ∷ []) (λ x. parts t ≡ x.0.now ∷ parts x.1.now)
split_is t None h = one_part t h
split_is t (Some x) h =
    let e : parts t ≡ take h.0 t ∷ parts (drop h.1 t) = first_part t h.0 (drop h.1 t) h.2.0 h.2.1.split in cc (e, h.3, h.4)
