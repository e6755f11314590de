use Rattle.std.proofs.Common.{◌≡◌, ◌++◌, map, drop}
use Rattle.std.specs.List.{flat_map}
use Rattle.cedar_schema_built.specs.OfFragments.{commons_of_fragment, commons_of_fragments}
use Rattle.cedar_schema_built.specs.LocatedViews.{common_listed}
use Rattle.cedar_schema_built.proofs.of_fragments.located_common_types.Given as goal

abbrev pub invariant-loop-fragment : goal.invariant-loop-fragment
invariant-loop-fragment g l = (map common_listed l.found.items ++ flat_map commons_of_fragment (drop l.fragment-index l.fragments)) ≡ commons_of_fragments l.fragments
