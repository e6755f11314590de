use Rattle.std.proofs.Common.{◌≡◌, ◌++◌, map}
use Rattle.std.specs.List.{flat_map}
use Rattle.cedar_expr_names.specs.Views.{type_name_of}
use Rattle.cedar_schema_entries.specs.Views.{action_seen}
use Rattle.cedar_schema_model.specs.Kept.{kinds_with, kinds_of}
use Rattle.cedar_schema_built.specs.Views.{request_kind}
use Rattle.cedar_schema_built.proofs.environments.add_environments.Given as goal

abbrev pub invariant-loop-principal : goal.invariant-loop-principal
invariant-loop-principal l = (map request_kind l.found.items ++ flat_map (kinds_with (action_seen l.action).uid (action_seen l.action).applied.resources) (map type_name_of l.principal-iterator)) ≡ (map request_kind l.initial.found.items ++ kinds_of (action_seen l.action))
