-- Lists as sets: what a test of equality with one member says of lists that have the members of two others together, or in common.
use Rattle.std.proofs.Common.{◌≡◌, ◌||◌, Bool, true, false, List, [], ◌∷◌, refl, sym, ap, ◌∙◌}
use Rattle.std.specs.List.{list_any}

module _ {K : Type 0} (F : K → Bool) where
  -- a member that passes the test
  here : (k : K) (ks : List K) → (list_any F ks ≡ true → (q : K) × (F q ≡ true)) → (b : Bool) → F k ≡ b → list_any F (k ∷ ks) ≡ true → (q : K) × (F q ≡ true)
  here k ks later true e h = (k, e)
  here k ks later false e h = later (ap (λ b. b || list_any F ks) (sym e) ∙ h)

  passing : (ks : List K) → list_any F ks ≡ true → (q : K) × (F q ≡ true)
  passing [] h = absurd (cc)
  passing (k ∷ ks) h = here k ks (λ r. passing ks r) (F k) refl h

  module _ (eq : K → K → Bool) (is : (q k : K) → F q ≡ true → F k ≡ eq q k) where
    as_member : (q : K) → F q ≡ true → (ks : List K) → list_any F ks ≡ list_any (eq q) ks
    as_member q h ks = ap (λ G. list_any G ks) (λ i k. is q k h i)

    module _ (op : Bool → Bool → Bool) (none : op false false ≡ false) (xs ys zs : List K) (made : (q : K) → list_any (eq q) zs ≡ op (list_any (eq q) xs) (list_any (eq q) ys)) where
      by_one : (q : K) × (F q ≡ true) → list_any F zs ≡ op (list_any F xs) (list_any F ys)
      by_one q = as_member q.0 q.1 zs ∙ made q.0 ∙ (λ i. op (sym (as_member q.0 q.1 xs) i) (sym (as_member q.0 q.1 ys) i))

      by_cases : (z x y : Bool) → list_any F zs ≡ z → list_any F xs ≡ x → list_any F ys ≡ y → list_any F zs ≡ op (list_any F xs) (list_any F ys)
      by_cases true x y hz hx hy = by_one (passing zs hz)
      by_cases false true y hz hx hy = by_one (passing xs hx)
      by_cases false false true hz hx hy = by_one (passing ys hy)
      by_cases false false false hz hx hy = hz ∙ sym none ∙ (λ i. op (sym hx i) (sym hy i))

      pub combined : list_any F zs ≡ op (list_any F xs) (list_any F ys)
      combined = by_cases (list_any F zs) (list_any F xs) (list_any F ys) refl refl refl
