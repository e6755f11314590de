use Rattle.std.proofs.Common.{◌≡◌, map}
use Rattle.std.specs.List.{list_all}
use Rattle.cedar_schema_entries.specs.InOrder.{type_in_order}
use Rattle.cedar_schema_entries.specs.Views.{entity_type_seen}
use Rattle.cedar_schema_built.specs.Views.{schema_kept}
use Rattle.cedar_schema_built.proofs.laws.each_type_is_in_order.Given as goal

abbrev pub invariant-loop-entity_type : goal.invariant-loop-entity_type
invariant-loop-entity_type l = list_all type_in_order (map entity_type_seen l.entity_type-iterator) ≡ list_all type_in_order (schema_kept l.schema).types
