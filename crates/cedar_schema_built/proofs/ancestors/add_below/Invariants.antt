use Rattle.std.proofs.Common.{◌≡◌, map}
use Rattle.std.specs.BTreeMap.{get}
use Rattle.cedar_expr_model.specs.Name.{name_eq}
use Rattle.cedar_expr_names.specs.Views.{type_name_of}
use Rattle.cedar_expr_names.specs.declared.entity.EntityType.{EntityType}
use Rattle.cedar_schema_entries.specs.Views.{entity_type_seen}
use Rattle.cedar_schema_built.specs.Ancestors.{types_by}
use Rattle.cedar_schema_built.proofs.Below.{all_above, seen_above}
use Rattle.cedar_schema_built.proofs.ancestors.add_below.Given as goal

abbrev pub invariant-loop-descendant : goal.invariant-loop-descendant
invariant-loop-descendant l = record {
  each : (q : EntityType) → all_above name_eq (type_name_of q) (entity_type_seen l.entity_type).name (map type_name_of l.descendant-iterator) (seen_above type_name_of name_eq (get types_by l.above) q) ≡ all_above name_eq (type_name_of q) (entity_type_seen l.entity_type).name (entity_type_seen l.entity_type).descendants (seen_above type_name_of name_eq (get types_by l.initial.above) q);
}
