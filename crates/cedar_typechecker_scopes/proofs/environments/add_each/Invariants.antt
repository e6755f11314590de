use Rattle.std.proofs.Common.{◌≡◌, ◌++◌, map, take, option_map}
use Rattle.cedar_expr_names.specs.Views.{type_name_of}
use Rattle.cedar_schema_model.specs.Environment.{with_slots}
use Rattle.cedar_typechecker_environments.specs.Settings.{environment_of}
use Rattle.cedar_typechecker_scopes.proofs.environments.add_each.Given as goal

abbrev pub invariant-loop-resource : goal.invariant-loop-resource
invariant-loop-resource l =
    map environment_of l.found.items
    ≡ map environment_of l.initial.found.items ++ map (with_slots (environment_of l.env) (option_map (λ t. type_name_of t.now) l.principal)) (map (λ t. option_map type_name_of t) (take l.resource-index l.resources))
