use Rattle.std.proofs.Common.{sym, ◌∙◌}
use Rattle.cedar_expr_model.specs.Lists.{first_found}
use Rattle.cedar_expr_names.specs.Views.{uid_of}
use Rattle.cedar_schema_entries.specs.Views.{action_seen}
use Rattle.cedar_schema_built.specs.Views.{schema_kept}
use Rattle.cedar_schema_model.specs.Unsound.{action_among, action_below_fault}
use Rattle.cedar_schema_sound.specs.Views.{fault_seen}
use Rattle.cedar_schema_sound.proofs.Closing.{this_one, rest_after, searched_on, some_is_some, none_is_none, action_kept_out, action_amiss_at, action_passed_over}
use Rattle.cedar_schema_sound.proofs.closed_actions.is_closed_over.Goals as goal
use Rattle.cedar_schema_sound.proofs.closed_actions.is_closed_over.Goals.{else-not-has_descendant-via-then-not-has_descendant+else-is_some-2, else-not-has_descendant-via-else-not-has_descendant}

pub returns-then-is_some-clause-amiss : goal.returns-then-is_some-clause-amiss
returns-then-is_some-clause-amiss c =
    λ e.
    action_kept_out (schema_kept c.args.schema.now) (action_seen c.args.action.now) (action_seen c.args.below.now) c.requires
    (some_is_some fault_seen c.left_out.result (first_found (action_among (action_seen c.args.action.now)) (action_seen c.args.below.now).descendants) c.left_out.ensures (sym c.is_some.ensures ∙ c.if-is_some.true))

pub returns-then-is_some-2-clause-amiss : goal.returns-then-is_some-2-clause-amiss
returns-then-is_some-2-clause-amiss c =
    λ e.
    action_amiss_at (schema_kept c.args.schema.now) (action_seen c.args.action.now) (uid_of c.in-Some.descendant.now)
    (this_one uid_of c.loop-descendant.descendant-iterator c.next.new.self c.in-Some.descendant.now c.in-Some.ensures.steps (action_seen c.args.action.now).descendants c.loop-descendant.invariant.among)
    (some_is_some fault_seen c.unsound_at.result (action_below_fault (schema_kept c.args.schema.now) (action_seen c.args.action.now) (uid_of c.in-Some.descendant.now)) c.unsound_at.ensures (sym c.is_some-then-not-has_descendant.ensures ∙ c.if-is_some-2.true))

pub loop-descendant-preserved : goal.loop-descendant-preserved
loop-descendant-preserved c =
    let k = schema_kept c.args.schema.now in
    let f = action_below_fault k (action_seen c.args.action.now) in
    let whole = (action_seen c.args.action.now).descendants in
    record {
      rest = λ h.
          searched_on uid_of c.loop-descendant.descendant-iterator c.next.new.self c.in-Some.descendant.now c.in-Some.ensures.steps f (first_found f whole) (c.loop-descendant.invariant.rest h)
          (elim c.else-not-has_descendant.branch [
            | else-not-has_descendant-via-then-not-has_descendant+else-is_some-2 w ↦ none_is_none fault_seen w.unsound_at.result (f (uid_of c.in-Some.descendant.now)) w.unsound_at.ensures (sym w.is_some-then-not-has_descendant.ensures ∙ w.if-is_some-2.false)
            | else-not-has_descendant-via-else-not-has_descendant w ↦
                action_passed_over k (action_seen c.args.action.now) (action_seen c.args.below.now) h
                (none_is_none fault_seen c.left_out.result (first_found (action_among (action_seen c.args.action.now)) (action_seen c.args.below.now).descendants) c.left_out.ensures (sym c.is_some.ensures ∙ c.if-is_some.false))
                (uid_of c.in-Some.descendant.now) (sym c.has_descendant.ensures ∙ w.if-not-has_descendant.false)
          ]);
      among = rest_after uid_of c.loop-descendant.descendant-iterator c.next.new.self c.in-Some.descendant.now c.in-Some.ensures.steps whole c.loop-descendant.invariant.among;
    }
