use Rattle.cedar_schema_entries.proofs.InOrder.{action_ordered}
use Rattle.cedar_schema_entries.proofs.laws.actions_are_in_order.Goals as goal

pub returns : goal.returns
returns c = action_ordered c.args.action.now c.iter-principals.ensures.ordered c.iter-resources.ensures.ordered c.iter-descendants.ensures.ordered
