-- Lists of keys in rising order, side by side.
use Rattle.std.specs.Prelude.{List, [], ◌∷◌, true}
use Rattle.std.specs.Ordering.{match_ordering}
use Rattle.std.specs.Set.{sorted_merge}
use Rattle.std.specs.declared.cmp.Ordering.{Ordering}
use Rattle.cedar_typechecker_environments.specs.declared.merging.Both.{Both}

module _ {K : Type 0} (cmp : K → K → Ordering) where
  -- the keys of either list
  abbrev pub merged : List K → List K → List K
  merged xs ys = sorted_merge cmp true xs ys

  -- what x ∷ xs has in common with a list, where `on` has that of xs
  abbrev pub common_step : K → List K → (List K → List K) → List K → List K
  common_step x xs on [] = []
  common_step x xs on (y ∷ ys) = match_ordering (cmp x y) (on (y ∷ ys)) (x ∷ on ys) (common_step x xs on ys)

  -- the keys that both lists have
  abbrev pub common : List K → List K → List K
  common [] ys = []
  common (x ∷ xs) ys = common_step x xs (common xs) ys

  -- the keys of either list, and of both, that are left
  abbrev pub left_of_either : Both K → List K
  left_of_either b = merged b.left.now b.right.now

  abbrev pub left_of_both : Both K → List K
  left_of_both b = common b.left.now b.right.now
