use Rattle.std.proofs.Common.{◌≡◌, ◌++◌, map, drop}
use Rattle.std.specs.List.{flat_map}
use Rattle.cedar_schema_built.specs.OfFragments.{space_in, spaces_of_fragment}
use Rattle.cedar_schema_built.specs.LocatedViews.{space_listed}
use Rattle.cedar_schema_built.proofs.of_fragments.add_namespaces_of.Given as goal

abbrev pub invariant-loop-namespace : goal.invariant-loop-namespace
invariant-loop-namespace g l = (map space_listed l.found.items ++ flat_map space_in (drop l.namespace-index l.namespace-items)) ≡ (map space_listed l.initial.found.items ++ spaces_of_fragment l.fragment)
