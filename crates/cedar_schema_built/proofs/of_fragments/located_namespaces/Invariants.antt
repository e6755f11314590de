use Rattle.std.proofs.Common.{◌≡◌, ◌++◌, map, drop}
use Rattle.std.specs.List.{flat_map}
use Rattle.cedar_schema_built.specs.OfFragments.{spaces_of_fragment, spaces_of_fragments}
use Rattle.cedar_schema_built.specs.LocatedViews.{space_listed}
use Rattle.cedar_schema_built.proofs.of_fragments.located_namespaces.Given as goal

abbrev pub invariant-loop-fragment : goal.invariant-loop-fragment
invariant-loop-fragment g l = (map space_listed l.found.items ++ flat_map spaces_of_fragment (drop l.fragment-index l.fragments)) ≡ spaces_of_fragments l.fragments
