use Rattle.std.proofs.Common.{◌≡◌, ◌++◌, map, drop}
use Rattle.std.specs.List.{flat_map}
use Rattle.cedar_schema_built.specs.OfFragments.{commons_of_space, commons_of_fragment}
use Rattle.cedar_schema_built.specs.LocatedViews.{common_listed}
use Rattle.cedar_schema_built.proofs.of_fragments.add_commons_of.Given as goal

abbrev pub invariant-loop-namespace : goal.invariant-loop-namespace
invariant-loop-namespace g l = (map common_listed l.found.items ++ flat_map commons_of_space (drop l.namespace-index l.namespace-items)) ≡ (map common_listed l.initial.found.items ++ commons_of_fragment l.fragment)
