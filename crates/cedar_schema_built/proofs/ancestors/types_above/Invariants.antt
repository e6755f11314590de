use Rattle.std.proofs.Common.{◌≡◌, ◌++◌, map}
use Rattle.std.specs.BTreeMap.{get}
use Rattle.cedar_expr_model.specs.Name.{name_eq}
use Rattle.cedar_expr_names.specs.Views.{type_name_of}
use Rattle.cedar_expr_names.specs.declared.entity.EntityType.{EntityType}
use Rattle.cedar_schema_model.specs.Kept.{KeptType}
use Rattle.cedar_schema_entries.specs.Views.{entity_type_seen}
use Rattle.cedar_schema_built.specs.Above.{above_among}
use Rattle.cedar_schema_built.specs.Ancestors.{types_by}
use Rattle.cedar_schema_built.specs.Entries.{types_in}
use Rattle.cedar_schema_built.proofs.Below.{seen_above}
use Rattle.cedar_schema_built.proofs.ancestors.types_above.Given as goal

abbrev pub invariant-loop-entity_type : goal.invariant-loop-entity_type
invariant-loop-entity_type l = record {
  each : (q : EntityType) → (seen_above type_name_of name_eq (get types_by l.above) q ++ above_among name_eq (λ (a : KeptType). a.name) (λ a. a.descendants) (type_name_of q) (map entity_type_seen l.entity_type-iterator)) ≡ above_among name_eq (λ (a : KeptType). a.name) (λ a. a.descendants) (type_name_of q) (types_in l.entity_types.entries);
}
