-- The tests of repeated ids and uids decide that all are distinct.
use Rattle.std.proofs.Common.{◌≡◌, Bool, List, [], ◌∷◌, ◌++◌, refl, sym, subst, ⊎_elim}
use Rattle.std.specs.Prelude.{Option, Some, None, Contains, is_none}
use Rattle.std.specs.Bool.{Decides}
use Rattle.std.proofs.lemmas.List.Elements.{Contains-append_left, Contains-append_right, Contains-append_cases}
use Rattle.cedar_expr_model.specs.Repeats.{repeated}
use Rattle.cedar_expr_model.proofs.Lists.{contains_head, contains_tail, contains_cases}
use Rattle.cedar_expr_model.proofs.Repeating.{repeats_decide}
use Rattle.cedar_expr_model.specs.ListLaws.{AreDistinct}

none-Decides : {A : Type 0} (o : Option A) → Decides (is_none o) (o ≡ None)
none-Decides None = (λ h. refl, λ h. refl)
none-Decides (Some x) = (λ h. cc, λ h. cc)

pub distinct-Decides : {A : Type 0} (eq : A → A → Bool) → ((x y : A) → Decides (eq x y) (x ≡ y)) → (xs : List A) → Decides (is_none (repeated eq xs)) (AreDistinct xs)
distinct-Decides eq decides xs =
    let d = none-Decides (repeated eq xs) in
    let r = repeats_decide eq decides xs in
    (λ h. r.0 (d.0 h), λ h. d.1 (r.1 h))

-- one more that stands at no place of a row may come in at any
pub distinct_between : {A : Type 0} (front back : List A) (x : A) → AreDistinct (front ++ back) → ¬ (Contains (front ++ back) x) → AreDistinct (front ++ x ∷ back)
distinct_between [] back x d n = (n, d)
distinct_between (y ∷ front) back x d n = (
  λ k.
      ⊎_elim (λ l. d.0 (Contains-append_left front back y l))
      (λ l. contains_cases ⊥ x back y l (λ e. n (subst (Contains (y ∷ front ++ back)) (sym e) (contains_head y (front ++ back)))) (λ m. d.0 (Contains-append_right front back y m)))
      (Contains-append_cases front (x ∷ back) y k),
  distinct_between front back x d.1 (λ k. n (contains_tail y (front ++ back) x k)),
)
