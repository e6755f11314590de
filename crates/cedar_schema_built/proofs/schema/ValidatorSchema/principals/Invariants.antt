use Rattle.std.proofs.Common.{◌≡◌, ◌++◌, map}
use Rattle.std.specs.List.{flat_map}
use Rattle.cedar_schema_model.specs.Kept.{KeptAction, kept_principals}
use Rattle.cedar_schema_entries.specs.Views.{action_seen}
use Rattle.cedar_schema_built.specs.Views.{schema_kept, names_of_types}
use Rattle.cedar_schema_built.proofs.schema.ValidatorSchema.principals.Given as goal

abbrev pub invariant-loop-action : goal.invariant-loop-action
invariant-loop-action l = (names_of_types l.found.items ++ flat_map (λ (a : KeptAction). a.applied.principals) (map action_seen l.action-iterator)) ≡ kept_principals (schema_kept l.self)
