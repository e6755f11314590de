-- The members of one set looked up in another one by one.
use Rattle.std.proofs.Common.{◌≡◌, ◌<◌, Bool, true, false, not, ◌&&◌, List, [], ◌∷◌, length, refl, sym, ap, ◌∙◌, subst, inl, inr, arith}
use Rattle.std.specs.Bool.{Decides, one_answer}
use Rattle.std.specs.List.{list_all}
use Rattle.std.specs.declared.cmp.Ordering.{Ordering}
use Rattle.std.proofs.lemmas.Cmp.{on_total}
use Rattle.cedar_expr_model.specs.Value.{V, Vs, no_values, value}
use Rattle.cedar_expr_model.specs.Order.{value_cmp}
use Rattle.cedar_expr_model.specs.Canonical.{are_rising, is_member, is_subset, is_disjoint}
use Rattle.cedar_expr_model.specs.SamenessLaws.{Among}
use Rattle.cedar_expr_model.proofs.Rising.{member_Decides}
use Rattle.cedar_expr_model.proofs.ValueOrder.{value_linear}
use Rattle.cedar_expr_values.specs.Extension.{Extension}
use Rattle.cedar_expr_values.specs.Rising.{all_among}
use Rattle.cedar_expr_values.specs.Values.{bare}
use Rattle.cedar_expr_values.specs.declared.value.Value.{Value}
use Rattle.cedar_expr_values.proofs.Members.{listed, subset_is, rises}
use Rattle.cedar_expr_values.proofs.Walked.{not_fewer}

module _ {X : Type 0} (seen : X → Extension) where
  pub each_is : (ws : Vs) (vs : List (Value X)) → list_all (λ v. is_member (bare seen v) ws) vs ≡ is_subset (listed seen vs) ws
  each_is ws [] = refl
  each_is ws (v ∷ vs) = ap (λ t. is_member (bare seen v) ws && t) (each_is ws vs)

  pub none_is : (ws : Vs) (vs : List (Value X)) → list_all (λ v. not (is_member (bare seen v) ws)) vs ≡ is_disjoint (listed seen vs) ws
  none_is ws [] = refl
  none_is ws (v ∷ vs) = ap (λ t. not (is_member (bare seen v) ws) && t) (none_is ws vs)

  -- more members than the other has are no subset of it
  abbrev by_value : Value X → Value X → Ordering
  by_value v w = value_cmp (bare seen v) (bare seen w)

  pub too_many : (vs ws : List (Value X)) → are_rising (listed seen vs) ≡ true → length ws < length vs → is_subset (listed seen vs) (listed seen ws) ≡ false
  too_many vs ws r h = go (all_among by_value vs ws) refl
    where
      go : (b : Bool) → all_among by_value vs ws ≡ b → is_subset (listed seen vs) (listed seen ws) ≡ false
      go true e = let f = not_fewer (on_total (bare seen) value_linear.total) vs ws (rises seen by_value (λ v w. refl) vs r) e in absurd (omega (arith, h, f))
      go false e = sym (subset_is seen by_value (λ v w. refl) vs ws) ∙ e

-- sets are disjoint where no value is in both
apart_Decides : (vs ws : Vs) → are_rising ws ≡ true → Decides (is_disjoint vs ws) ((u : V) → Among u vs → Among u ws → ⊥)
apart_Decides no_values ws r = (λ h u a b. absurd a, λ f. refl)
apart_Decides (value v vs) ws r = go (is_member v ws) (member_Decides v ws r) (apart_Decides vs ws r)
  where
    go : (b : Bool) → Decides b (Among v ws) → Decides (is_disjoint vs ws) ((u : V) → Among u vs → Among u ws → ⊥) → Decides (not b && is_disjoint vs ws) ((u : V) → Among u (value v vs) → Among u ws → ⊥)
    go true d e = (λ h. cc, λ f. absurd (f v (inl refl) (d.0 refl)))
    go false d e = (λ h u. outside u h, λ f. e.1 (λ u a. f u (inr a)))
      where
        outside : (u : V) → is_disjoint vs ws ≡ true → Among u (value v vs) → Among u ws → ⊥
        outside u h (inl q) b = let t = d.1 (subst (λ w. Among w ws) q b) in cc
        outside u h (inr a) b = e.0 h u a b

pub apart_back : (vs ws : Vs) → are_rising vs ≡ true → are_rising ws ≡ true → is_disjoint vs ws ≡ is_disjoint ws vs
apart_back vs ws r q =
    let d = apart_Decides ws vs r in
    one_answer (is_disjoint vs ws) (is_disjoint ws vs) (apart_Decides vs ws q) (λ h u a b. d.0 h u b a, λ f. d.1 (λ u a b. f u b a))
