use Rattle.std.proofs.Common.{◌≡◌, map, true}
use Rattle.cedar_expr_model.specs.Lists.{first_found}
use Rattle.std.specs.Prelude.{Contains}
use Rattle.cedar_expr_model.specs.Name.{Name}
use Rattle.cedar_expr_names.specs.Views.{type_name_of}
use Rattle.cedar_schema_entries.specs.Views.{entity_type_seen}
use Rattle.cedar_schema_built.specs.Views.{schema_kept}
use Rattle.cedar_schema_model.specs.Unsound.{type_below_fault}
use Rattle.cedar_schema_sound.specs.Closed.{is_type_closed}
use Rattle.cedar_schema_sound.proofs.closed_types.is_closed_over.Given as goal

abbrev pub invariant-loop-descendant : goal.invariant-loop-descendant
invariant-loop-descendant l = record {
  rest : is_type_closed (schema_kept l.schema) (entity_type_seen l.below) ≡ true
      → first_found (type_below_fault (schema_kept l.schema) (entity_type_seen l.entity_type)) (map type_name_of l.descendant-iterator) ≡ first_found (type_below_fault (schema_kept l.schema) (entity_type_seen l.entity_type)) (entity_type_seen l.entity_type).descendants;
  among : (n : Name) → Contains (map type_name_of l.descendant-iterator) n → Contains (entity_type_seen l.entity_type).descendants n;
}
