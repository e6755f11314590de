use Rattle.std.proofs.Common.{◌≡◌, ◌++◌, map}
use Rattle.cedar_expr_names.specs.Namespaces.{space_of}
use Rattle.cedar_expr_names.specs.Views.{type_name_of}
use Rattle.cedar_schema_decl.specs.Conditional.{conditional_of}
use Rattle.cedar_schema_fragments.specs.Actions.{under_uid}
use Rattle.cedar_schema_fragments.specs.Qualified.{action_typed}
use Rattle.cedar_schema_fragments.specs.Written.{actions_written}
use Rattle.cedar_schema_fragments.proofs.naming.actions_of_type.Given as goal

abbrev pub invariant-loop-id : goal.invariant-loop-id
invariant-loop-id l =
    map (under_uid conditional_of conditional_of) l.made.items ++ map (action_typed (space_of l.namespace) (type_name_of l.ty)) (actions_written l.id-iterator)
    ≡ map (action_typed (space_of l.namespace) (type_name_of l.ty)) (actions_written l.actions.entries)
