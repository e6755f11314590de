use Rattle.std.specs.List.{list_all}
use Rattle.cedar_schema_entries.specs.InOrder.{action_in_order}
use Rattle.cedar_schema_entries.specs.Views.{action_seen}
use Rattle.cedar_schema_built.specs.Views.{schema_kept}
use Rattle.cedar_schema_built.proofs.InOrder.{all_next, all_end}
use Rattle.cedar_schema_built.proofs.laws.each_action_is_in_order.Goals as goal

pub loop-action-preserved : goal.loop-action-preserved
loop-action-preserved c =
    all_next action_in_order action_seen c.loop-action.action-iterator c.next.new.self c.in-Some.action.now (list_all action_in_order (schema_kept c.args.schema.now).actions)
    c.loop-action.invariant c.in-Some.ensures.steps c.actions_are_in_order.ensures

pub returns : goal.returns
returns c = all_end action_in_order action_seen c.loop-action.action-iterator (list_all action_in_order (schema_kept c.args.schema.now).actions) c.loop-action.invariant c.in-None.ensures.steps.0
