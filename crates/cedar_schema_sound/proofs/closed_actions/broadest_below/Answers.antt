use Rattle.std.proofs.Common.{sym}
use Rattle.cedar_expr_names.specs.Views.{uid_of}
use Rattle.cedar_schema_entries.specs.Views.{action_seen}
use Rattle.cedar_schema_sound.proofs.Closing.{this_one, rest_after}
use Rattle.cedar_schema_sound.proofs.closed_actions.broadest_below.Goals as goal

pub loop-descendant-preserved-in-loop-descendant : goal.loop-descendant-preserved-in-loop-descendant
loop-descendant-preserved-in-loop-descendant c = record {
  below = record {
    uid = uid_of c.in-Some.descendant.now;
    among = this_one uid_of c.loop-descendant.descendant-iterator c.next.new.self c.in-Some.descendant.now c.in-Some.ensures.steps (action_seen c.args.action.now).descendants c.loop-descendant.invariant.rest;
    kept = sym c.in-Some-get_action_id.ensures;
    fewer = c.has_fewer.ensures.0 c.if-has_fewer.true;
  };
  rest = rest_after uid_of c.loop-descendant.descendant-iterator c.next.new.self c.in-Some.descendant.now c.in-Some.ensures.steps (action_seen c.args.action.now).descendants c.loop-descendant.invariant.rest;
}

pub loop-descendant-preserved : goal.loop-descendant-preserved
loop-descendant-preserved c = record {
  below = c.loop-descendant.invariant.below;
  rest = rest_after uid_of c.loop-descendant.descendant-iterator c.next.new.self c.in-Some.descendant.now c.in-Some.ensures.steps (action_seen c.args.action.now).descendants c.loop-descendant.invariant.rest;
}
