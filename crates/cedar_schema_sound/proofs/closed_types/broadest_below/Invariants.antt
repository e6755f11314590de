use Rattle.std.proofs.Common.{map, IfSome}
use Rattle.std.specs.Prelude.{Contains}
use Rattle.cedar_expr_model.specs.Name.{Name}
use Rattle.cedar_expr_names.specs.Views.{type_name_of}
use Rattle.cedar_schema_entries.specs.Views.{entity_type_seen}
use Rattle.cedar_schema_built.specs.Views.{schema_kept}
use Rattle.cedar_schema_sound.specs.Closed.{IsTypeBelow}
use Rattle.cedar_schema_sound.proofs.closed_types.broadest_below.Given as goal

abbrev pub invariant-loop-descendant : goal.invariant-loop-descendant
invariant-loop-descendant l = record {
  below : IfSome l.broadest (λ t. IsTypeBelow (schema_kept l.schema) (entity_type_seen l.entity_type) (entity_type_seen t.now));
  rest : (n : Name) → Contains (map type_name_of l.descendant-iterator) n → Contains (entity_type_seen l.entity_type).descendants n;
}
