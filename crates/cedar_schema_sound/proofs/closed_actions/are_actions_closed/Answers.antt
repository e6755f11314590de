use Rattle.std.proofs.Common.{map, sym, subst}
use Rattle.std.specs.Prelude.{Contains}
use Rattle.cedar_expr_model.proofs.Lists.{contains_none}
use Rattle.cedar_schema_entries.specs.Views.{action_seen}
use Rattle.cedar_schema_built.specs.Views.{schema_kept}
use Rattle.cedar_schema_sound.specs.Closed.{IsActionClosedAfter}
use Rattle.cedar_schema_sound.proofs.Closing.{this_one, rest_after, all_but, action_not_closed, each_action_closed}
use Rattle.cedar_schema_sound.proofs.closed_actions.are_actions_closed.Goals as goal

pub returns-then-not-is_closed : goal.returns-then-not-is_closed
returns-then-not-is_closed c =
    let k = schema_kept c.args.schema.now in
    sym (action_not_closed k (action_seen c.in-Some.action.now)
    (this_one action_seen c.loop-action.action-iterator c.next.new.self c.in-Some.action.now c.in-Some.ensures.steps k.actions c.loop-action.invariant.among)
    (c.is_closed.ensures.amiss c.if-not-is_closed.true))

pub loop-action-preserved : goal.loop-action-preserved
loop-action-preserved c =
    let k = schema_kept c.args.schema.now in
    record {
      among = rest_after action_seen c.loop-action.action-iterator c.next.new.self c.in-Some.action.now c.in-Some.ensures.steps k.actions c.loop-action.invariant.among;
      each = λ h. c.loop-action.invariant.each (all_but action_seen c.loop-action.action-iterator c.next.new.self c.in-Some.action.now c.in-Some.ensures.steps (IsActionClosedAfter k) (c.is_closed.ensures.closed c.if-not-is_closed.false) h);
    }

pub returns : goal.returns
returns c =
    let k = schema_kept c.args.schema.now in
    sym (each_action_closed k (c.loop-action.invariant.each (λ t h. absurd (contains_none t (subst (λ xs. Contains (map action_seen xs) t) c.in-None.ensures.steps.0 h)))))
