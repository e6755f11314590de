-- Maps of pairs whose keys differ, and why there is none.
-- Rule: repeated names (docs/RULES.md).
use Rattle.std.specs.Prelude.{◌≡◌, List, Some, IsSome}
use Rattle.std.specs.BTreeMap.{BTreeMap, get}
use Rattle.std.specs.Map.{lookup}
use Rattle.std.specs.Ordering.{eq_by_cmp}
use Rattle.std.specs.declared.cmp.Ordering.{Ordering}
use Rattle.cedar_expr_model.specs.Repeats.{repeated}
use Rattle.cedar_expr_functions.specs.declared.err.CollectError.{CollectError}
use Rattle.cedar_expr_functions.specs.declared.err.CollectError.TheVariants.{OutOfMemory, Repeated}

module _ {K X : Type 0} (cmp : K → K → Ordering) where
  -- The map has under each key what stands with it in the pairs.
  pub record IsMapOf (ps : List (K × X)) (m : BTreeMap K X) : Type 0 where
    pub finds : (k : K) → get cmp m k ≡ lookup (eq_by_cmp cmp k) ps

  -- The key is in the map. Out of memory says nothing.
  abbrev pub RefusesKey : BTreeMap K X → K → CollectError K → Type 0
  RefusesKey m k OutOfMemory = Unit {0}
  RefusesKey m k (Repeated q) = IsSome (get cmp m k) × (q ≡ k)

-- The key is the first that is met again. Out of memory says nothing.
abbrev pub RefusesKeys : {K : Type 0} → (K → K → Ordering) → List K → CollectError K → Type 0
RefusesKeys cmp ks OutOfMemory = Unit {0}
RefusesKeys cmp ks (Repeated q) = repeated (eq_by_cmp cmp) ks ≡ Some q
