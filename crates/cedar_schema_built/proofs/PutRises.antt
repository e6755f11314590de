-- What is put in order rises.
use Rattle.std.proofs.Common.{◌≡◌, true, List, [], ◌∷◌, refl, sym, ap, ◌∙◌}
use Rattle.std.specs.Prelude.{Contains}
use Rattle.std.specs.Cmp.{IsTotalOrder}
use Rattle.std.specs.Ordering.{is_lt, match_ordering, ordering_reverse}
use Rattle.std.specs.declared.cmp.Ordering.{Ordering}
use Rattle.std.specs.declared.cmp.Ordering.TheVariants.{Less, Equal, Greater}
use Rattle.cedar_expr_model.specs.Lists.{rises}
use Rattle.cedar_expr_model.proofs.Lists.{hold_both, contains_cases, contains_head, contains_tail, contains_none}
use Rattle.cedar_expr_model.proofs.Rising.{is_less}
use Rattle.cedar_schema_built.specs.Put.{put, all_put}
use Rattle.cedar_schema_built.proofs.Rising.{rest_rises, below_each, rises_more}

module _ {S : Type 0} {by : S → S → Ordering} (o : IsTotalOrder by) where
  abbrev put_in_order : S → List S → List S
  put_in_order a bs = put by (λ s. s) a bs

  turned : (a b : S) → by a b ≡ Greater → by b a ≡ Less
  turned a b e = o.antisymm b a ∙ ap ordering_reverse e

  -- what stands before all of them and before what is put stands before all that there is then
  put_above : (x a : S) (bs : List S) → by x a ≡ Less → ((y : S) → Contains bs y → by x y ≡ Less) → (y : S) → Contains (put_in_order a bs) y → by x y ≡ Less
  put_above x a [] h k y c = contains_cases (by x y ≡ Less) a [] y c (λ e. ap (by x) (sym e) ∙ h) (λ m. absurd (contains_none y m))
  put_above x a (b ∷ bs) h k y c = go (by a b) c (put_above x a bs h (λ z m. k z (contains_tail b bs z m)) y)
    where
      go : (t : Ordering) → Contains (match_ordering t (a ∷ b ∷ bs) (a ∷ bs) (b ∷ put_in_order a bs)) y → (Contains (put_in_order a bs) y → by x y ≡ Less) → by x y ≡ Less
      go Less m rest = contains_cases (by x y ≡ Less) a (b ∷ bs) y m (λ e. ap (by x) (sym e) ∙ h) (k y)
      go Equal m rest = contains_cases (by x y ≡ Less) a bs y m (λ e. ap (by x) (sym e) ∙ h) (λ n. k y (contains_tail b bs y n))
      go Greater m rest = contains_cases (by x y ≡ Less) b (put_in_order a bs) y m (λ e. ap (by x) (sym e) ∙ k b (contains_head b bs)) rest

  put_rises : (a : S) (bs : List S) → rises by bs ≡ true → rises by (put_in_order a bs) ≡ true
  put_rises a [] r = refl
  put_rises a (b ∷ bs) r = go (by a b) refl (put_rises a bs (rest_rises o b bs r))
    where
      go : (t : Ordering) → by a b ≡ t → rises by (put_in_order a bs) ≡ true → rises by (match_ordering t (a ∷ b ∷ bs) (a ∷ bs) (b ∷ put_in_order a bs)) ≡ true
      go Less e rest = hold_both (is_lt (by a b)) (rises by (b ∷ bs)) (is_less (by a b) e) r
      go Equal e rest = rises_more o a bs (λ y m. o.congr a b y e ∙ below_each o b bs r y m) (rest_rises o b bs r)
      go Greater e rest = rises_more o b (put_in_order a bs) (put_above b a bs (turned a b e) (below_each o b bs r)) rest

  pub all_put_rises : (bs as_ : List S) → rises by bs ≡ true → rises by (all_put by (λ s. s) bs as_) ≡ true
  all_put_rises bs [] r = r
  all_put_rises bs (a ∷ as_) r = all_put_rises (put_in_order a bs) as_ (put_rises a bs r)
