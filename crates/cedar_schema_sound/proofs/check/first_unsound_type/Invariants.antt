use Rattle.std.proofs.Common.{◌≡◌, map, true}
use Rattle.std.specs.List.{list_all}
use Rattle.cedar_expr_model.specs.Lists.{first_found}
use Rattle.cedar_schema_entries.specs.Views.{entity_type_seen}
use Rattle.cedar_schema_built.specs.Views.{schema_kept}
use Rattle.cedar_schema_model.specs.Unsound.{entity_type_fault}
use Rattle.cedar_schema_sound.specs.Closed.{is_type_closed}
use Rattle.cedar_schema_sound.specs.Views.{names_known}
use Rattle.cedar_schema_sound.proofs.check.first_unsound_type.Given as goal

abbrev pub invariant-loop-entity_type : goal.invariant-loop-entity_type
invariant-loop-entity_type l = record {
  found : first_found (entity_type_fault (names_known l.extension_types) (schema_kept l.schema)) (map entity_type_seen l.entity_type-iterator) ≡ first_found (entity_type_fault (names_known l.extension_types) (schema_kept l.schema)) (schema_kept l.schema).types;
  closed : l.closed ≡ true → list_all (is_type_closed (schema_kept l.schema)) (map entity_type_seen l.entity_type-iterator) ≡ true;
}
