use Rattle.std.proofs.Common.{◌≡◌, ◌++◌, map, drop}
use Rattle.cedar_schema_built.specs.OfFragments.{common_in}
use Rattle.cedar_schema_built.specs.LocatedViews.{common_listed}
use Rattle.cedar_schema_built.proofs.of_fragments.add_commons.Given as goal

abbrev pub invariant-loop-def : goal.invariant-loop-def
invariant-loop-def g l = (map common_listed l.found.items ++ map common_in (drop l.def-index l.def-items)) ≡ (map common_listed l.initial.found.items ++ map common_in l.defs.defs.items)
