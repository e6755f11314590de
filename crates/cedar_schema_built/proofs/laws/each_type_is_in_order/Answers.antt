use Rattle.std.specs.List.{list_all}
use Rattle.cedar_schema_entries.specs.InOrder.{type_in_order}
use Rattle.cedar_schema_entries.specs.Views.{entity_type_seen}
use Rattle.cedar_schema_built.specs.Views.{schema_kept}
use Rattle.cedar_schema_built.proofs.InOrder.{all_next, all_end}
use Rattle.cedar_schema_built.proofs.laws.each_type_is_in_order.Goals as goal

pub loop-entity_type-preserved : goal.loop-entity_type-preserved
loop-entity_type-preserved c =
    all_next type_in_order entity_type_seen c.loop-entity_type.entity_type-iterator c.next.new.self c.in-Some.entity_type.now (list_all type_in_order (schema_kept c.args.schema.now).types)
    c.loop-entity_type.invariant c.in-Some.ensures.steps c.entity_types_are_in_order.ensures

pub returns : goal.returns
returns c = all_end type_in_order entity_type_seen c.loop-entity_type.entity_type-iterator (list_all type_in_order (schema_kept c.args.schema.now).types) c.loop-entity_type.invariant c.in-None.ensures.steps.0
