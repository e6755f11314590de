use Rattle.std.proofs.Common.{map}
use Rattle.std.specs.Prelude.{Contains}
use Rattle.cedar_schema_model.specs.Kept.{KeptAction}
use Rattle.cedar_schema_entries.specs.Views.{action_seen}
use Rattle.cedar_schema_built.specs.Views.{schema_kept}
use Rattle.cedar_schema_sound.specs.Closed.{IsActionClosedAfter}
use Rattle.cedar_schema_sound.proofs.closed_actions.are_actions_closed.Given as goal

abbrev pub invariant-loop-action : goal.invariant-loop-action
invariant-loop-action l = record {
  among : (t : KeptAction) → Contains (map action_seen l.action-iterator) t → Contains (schema_kept l.schema).actions t;
  each : ((t : KeptAction) → Contains (map action_seen l.action-iterator) t → IsActionClosedAfter (schema_kept l.schema) t) → (t : KeptAction) → Contains (schema_kept l.schema).actions t → IsActionClosedAfter (schema_kept l.schema) t;
}
