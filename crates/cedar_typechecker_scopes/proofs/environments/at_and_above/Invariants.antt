use Rattle.std.proofs.Common.{◌≡◌, ◌++◌, map, Some, option_map}
use Rattle.std.specs.Vec.Iter.{into_iter_items}
use Rattle.cedar_expr_names.specs.Views.{type_name_of}
use Rattle.cedar_typechecker_scopes.proofs.environments.at_and_above.Given as goal

abbrev pub invariant-loop-above : goal.invariant-loop-above
invariant-loop-above g l =
    map (λ t. option_map type_name_of t) l.types.items ++ map (λ m. Some m) (map type_name_of (into_iter_items l.above-iterator))
    ≡ map (λ t. option_map type_name_of t) l.initial.types.items ++ map (λ m. Some m) (map type_name_of (into_iter_items l.initial.above-iterator))
