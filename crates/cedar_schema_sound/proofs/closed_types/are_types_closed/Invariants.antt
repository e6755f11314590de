use Rattle.std.proofs.Common.{map}
use Rattle.std.specs.Prelude.{Contains}
use Rattle.cedar_schema_model.specs.Kept.{KeptType}
use Rattle.cedar_schema_entries.specs.Views.{entity_type_seen}
use Rattle.cedar_schema_built.specs.Views.{schema_kept}
use Rattle.cedar_schema_sound.specs.Closed.{IsTypeClosedAfter}
use Rattle.cedar_schema_sound.proofs.closed_types.are_types_closed.Given as goal

abbrev pub invariant-loop-entity_type : goal.invariant-loop-entity_type
invariant-loop-entity_type l = record {
  among : (t : KeptType) → Contains (map entity_type_seen l.entity_type-iterator) t → Contains (schema_kept l.schema).types t;
  each : ((t : KeptType) → Contains (map entity_type_seen l.entity_type-iterator) t → IsTypeClosedAfter (schema_kept l.schema) t) → (t : KeptType) → Contains (schema_kept l.schema).types t → IsTypeClosedAfter (schema_kept l.schema) t;
}
