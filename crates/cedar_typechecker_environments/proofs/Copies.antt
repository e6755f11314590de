-- Copies of keys, made one after the other: they are in order as the keys are, and have the same members.
use Rattle.std.proofs.Common.{◌≡◌, ◌||◌, List, [], ◌∷◌, ◌++◌, refl, sym, ap, subst, ◌∙◌}
use Rattle.std.specs.Ordering.{eq_by_cmp, is_eq}
use Rattle.std.specs.Bool.{IsTrue}
use Rattle.std.specs.Cmp.{IsTotalOrder}
use Rattle.std.specs.List.{AllByRecursion, AllZip}
use Rattle.std.specs.List.Sorted.{IsStrictlySortedBy}
use Rattle.std.specs.Set.{is_member, ClonesAreEqual}
use Rattle.std.specs.declared.cmp.Ordering.{Ordering}
use Rattle.std.specs.declared.cmp.Ordering.TheVariants.{Less, Equal, Greater}
use Rattle.std.proofs.lemmas.Cmp.{alike_right}
use Rattle.std.proofs.lemmas.List.Elements.{AllZip-push}

module _ {K : Type 0} (C : K → K → Type 0) where
  -- of these keys all but the rest are copied
  abbrev pub Copied : List K → List K → List K → Type 0
  Copied all rest made = (done : List K) × AllZip C done made × (all ≡ done ++ rest)

  nested : (xs : List K) (x : K) (ys : List K) → xs ++ x ∷ ys ≡ (xs ++ x ∷ []) ++ ys
  nested [] x ys = refl
  nested (z ∷ xs) x ys = ap (λ l. z ∷ l) (nested xs x ys)

  at_end : (xs : List K) → xs ++ [] ≡ xs
  at_end [] = refl
  at_end (x ∷ xs) = ap (λ l. x ∷ l) (at_end xs)

  pub begun : (all rest made : List K) → all ≡ rest → made ≡ [] → Copied all rest made
  begun all rest made e f = ([], subst (AllZip C []) (sym f) tt, e)

  pub taken : (all rest more made new : List K) (x y : K) → Copied all rest made → rest ≡ x ∷ more → C x y → new ≡ made ++ y ∷ [] → Copied all more new
  taken all rest more made new x y c e h f =
      (c.0 ++ x ∷ [], subst (AllZip C (c.0 ++ x ∷ [])) (sym f) (AllZip-push C c.0 made x y c.1 h), c.2 ∙ ap (λ l. c.0 ++ l) e ∙ nested c.0 x more)

  pub ended : (all rest made : List K) → Copied all rest made → rest ≡ [] → AllZip C all made
  ended all rest made c e = subst (λ l. AllZip C l made) (sym (c.2 ∙ ap (λ l. c.0 ++ l) e ∙ at_end c.0)) c.1

  module _ {R : K → K → Ordering} (o : IsTotalOrder R) (equal : ClonesAreEqual (eq_by_cmp R) C) where
    as_equal : (r : Ordering) → IsTrue (is_eq r) → r ≡ Equal
    as_equal Less h = absurd (cc)
    as_equal Equal h = refl
    as_equal Greater h = absurd (cc)

    tied : (x y : K) → C x y → R x y ≡ Equal
    tied x y h = as_equal (R x y) (equal x y h)

    below : (x y : K) → C x y → (ks vs : List K) → AllZip C ks vs → AllByRecursion (λ z. R x z ≡ Less) ks → AllByRecursion (λ z. R y z ≡ Less) vs
    below x y h [] [] z a = tt
    below x y h [] (v ∷ vs) z a = absurd z
    below x y h (k ∷ ks) [] z a = absurd z
    below x y h (k ∷ ks) (v ∷ vs) z a = (sym (alike_right o k v y (tied k v z.0)) ∙ sym (o.congr x y k (tied x y h)) ∙ a.0, below x y h ks vs z.1 a.1)

    pub copies_rise : (ks vs : List K) → AllZip C ks vs → IsStrictlySortedBy R ks → IsStrictlySortedBy R vs
    unfolding IsStrictlySortedBy
    copies_rise [] [] z s = tt
    copies_rise [] (v ∷ vs) z s = absurd z
    copies_rise (k ∷ ks) [] z s = absurd z
    copies_rise (k ∷ ks) (v ∷ vs) z s = (below k v z.0 ks vs z.1 s.0, copies_rise ks vs z.1 s.1)

    pub copies_tell : (q : K) (ks vs : List K) → AllZip C ks vs → is_member (eq_by_cmp R) vs q ≡ is_member (eq_by_cmp R) ks q
    copies_tell q [] [] z = refl
    copies_tell q [] (v ∷ vs) z = absurd z
    copies_tell q (k ∷ ks) [] z = absurd z
    copies_tell q (k ∷ ks) (v ∷ vs) z = λ i. ap is_eq (sym (alike_right o k v q (tied k v z.0))) i || copies_tell q ks vs z.1 i
