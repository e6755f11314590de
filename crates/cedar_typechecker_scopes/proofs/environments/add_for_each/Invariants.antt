use Rattle.std.proofs.Common.{◌≡◌, ◌++◌, map, take, option_map}
use Rattle.std.specs.List.{flat_map}
use Rattle.cedar_expr_names.specs.Views.{type_name_of}
use Rattle.cedar_schema_model.specs.Environment.{with_slots}
use Rattle.cedar_typechecker_environments.specs.Settings.{environment_of}
use Rattle.cedar_typechecker_scopes.proofs.environments.add_for_each.Given as goal

abbrev pub invariant-loop-ty : goal.invariant-loop-ty
invariant-loop-ty l =
    map environment_of l.found.items
    ≡ map environment_of l.initial.found.items ++ flat_map (λ m. map (with_slots (environment_of l.env) m) (map (λ t. option_map type_name_of t) l.resources)) (map (λ t. option_map type_name_of t) (take l.ty-index l.principals))
