use Rattle.std.proofs.Common.{◌≡◌, ◌++◌, map}
use Rattle.cedar_expr_names.specs.Views.{type_name_of}
use Rattle.cedar_schema_entries.specs.Views.{action_seen}
use Rattle.cedar_schema_model.specs.Kept.{kinds_with}
use Rattle.cedar_schema_built.specs.Views.{request_kind}
use Rattle.cedar_schema_built.proofs.environments.add_kinds.Given as goal

abbrev pub invariant-loop-resource : goal.invariant-loop-resource
invariant-loop-resource l = (map request_kind l.found.items ++ kinds_with (action_seen l.action).uid (map type_name_of l.resource-iterator) (type_name_of l.principal)) ≡ (map request_kind l.initial.found.items ++ kinds_with (action_seen l.action).uid (action_seen l.action).applied.resources (type_name_of l.principal))
