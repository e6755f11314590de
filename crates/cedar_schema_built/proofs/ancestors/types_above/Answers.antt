use Rattle.std.proofs.Common.{◌∙◌, ◌++◌, [], map, ap}
use Rattle.std.specs.BTreeMap.{get, is_at}
use Rattle.std.specs.Map.{lookup}
use Rattle.std.specs.Option.{option_map_or}
use Rattle.cedar_expr_model.specs.Name.{name_eq}
use Rattle.cedar_expr_names.specs.Views.{type_name_of}
use Rattle.cedar_schema_model.specs.Kept.{KeptType}
use Rattle.cedar_schema_entries.specs.Views.{entity_type_seen}
use Rattle.cedar_schema_built.specs.Above.{above_among}
use Rattle.cedar_schema_built.specs.Ancestors.{types_by}
use Rattle.cedar_schema_built.proofs.Below.{one_above}
use Rattle.cedar_schema_built.proofs.Putting.{of_values}
use Rattle.cedar_schema_built.proofs.ancestors.types_above.Goals as goal

pub loop-entity_type-preserved : goal.loop-entity_type-preserved
loop-entity_type-preserved c = record {
  each = λ q. one_above type_name_of name_eq (λ (a : KeptType). a.name) (λ a. a.descendants) entity_type_seen c.loop-entity_type.entity_type-iterator c.next.new.self c.in-Some.entity_type.now c.in-Some.ensures.steps
      (get types_by c.loop-entity_type.above) (get types_by c.add_below.new.above) c.in_ok-add_below.ensures q _ (c.loop-entity_type.invariant.each q);
}

pub loop-entity_type-init : goal.loop-entity_type-init
loop-entity_type-init c = record {
  each = λ q.
      (λ i. map type_name_of (option_map_or (λ r. r.items) (lookup (is_at (types_by q)) (c.new-above.ensures.empty i)) [])
      ++ above_among name_eq (λ (a : KeptType). a.name) (λ a. a.descendants) (type_name_of q) (map entity_type_seen ((c.into_iter-entity_type-iterator.ensures.into_iter_gives ∙ c.values-entity_type-items.ensures.rest) i)))
      ∙ ap (above_among name_eq (λ (a : KeptType). a.name) (λ a. a.descendants) (type_name_of q)) (of_values entity_type_seen c.args.entity_types.now.entries);
}
