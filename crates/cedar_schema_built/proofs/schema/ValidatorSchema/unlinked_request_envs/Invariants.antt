use Rattle.std.proofs.Common.{◌≡◌, ◌++◌, map}
use Rattle.std.specs.List.{flat_map}
use Rattle.cedar_schema_entries.specs.Views.{action_seen}
use Rattle.cedar_schema_model.specs.Kept.{kinds_of, kept_environments}
use Rattle.cedar_schema_built.specs.Views.{schema_kept, request_kind}
use Rattle.cedar_schema_built.proofs.schema.ValidatorSchema.unlinked_request_envs.Given as goal

abbrev pub invariant-loop-action : goal.invariant-loop-action
invariant-loop-action l = (map request_kind l.found.items ++ flat_map kinds_of (map action_seen l.action-iterator)) ≡ kept_environments (schema_kept l.self)
