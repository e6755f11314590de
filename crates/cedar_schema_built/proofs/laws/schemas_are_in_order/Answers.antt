use Rattle.cedar_schema_built.specs.Views.{schema_kept}
use Rattle.cedar_schema_built.proofs.InOrder.{environments_rise, schema_in_order}
use Rattle.cedar_schema_built.proofs.laws.schemas_are_in_order.Goals as goal

pub returns-clause-kept : goal.returns-clause-kept
returns-clause-kept c = schema_in_order c.args.schema.now c.keys-names.ensures.ordered c.keys-uids.ensures.ordered c.each_type_is_in_order.ensures c.each_action_is_in_order.ensures

pub returns-clause-environments : goal.returns-clause-environments
returns-clause-environments c =
    environments_rise (schema_kept c.args.schema.now)
    (schema_in_order c.args.schema.now c.keys-names.ensures.ordered c.keys-uids.ensures.ordered c.each_type_is_in_order.ensures c.each_action_is_in_order.ensures)
