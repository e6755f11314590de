use Rattle.std.proofs.Common.{[], refl, ap, ◌∙◌}
use Rattle.cedar_gate_runs.proofs.Asked.{alone_beyond, beyond_on}
use Rattle.cedar_gate_runs.proofs.Ended.{carried_err, comes_to, halts_last}
use Rattle.std.proofs.lemmas.List.{append-nil}
use Rattle.cedar_gate_runs.proofs.Hosted.{host_after, host_with}
use Rattle.cedar_gate_runs.proofs.Looped.{halts_after}
use Rattle.cedar_gate_runs.proofs.Pushed.{handed, carried, carried_to}
use Rattle.cedar_gate_runs.specs.Steps.{steps_of}
use Rattle.cedar_evaluator_requests.specs.Views.{answer_of}
use Rattle.cedar_gate_runs.specs.Transcripts.{entries_of}
use Rattle.cedar_gate_runs.proofs.Losing.{on_err, kept_count, rounds_last, answer_last}
use Rattle.cedar_gate_runs.specs.Counting.{count_after}
use Rattle.cedar_gate_runs.proofs.runs.follow.Goals as goal

pub returns-in_err-take_steps-clause-stopped : goal.returns-in_err-take_steps-clause-stopped
returns-in_err-take_steps-clause-stopped g c = handed _ c.in_err-take_steps.field-0.0 c.from_residual.result c.from_residual.ensures.1 c.in_err-take_steps.ensures.stopped

pub returns-in_err-load_all-clause-stopped : goal.returns-in_err-load_all-clause-stopped
returns-in_err-load_all-clause-stopped g c = handed _ c.in_err-load_all.field-0.0 c.from_residual-in_err-load_all.result c.from_residual-in_err-load_all.ensures.1
    (λ honest d s h i b.
    let before = (c.in_err-load_all.ensures.host honest).0 in
    let w = c.in_ok-take_steps.ensures.did before d s h i b in
    halts_after (g.E.SessionCalls.stands d) d s (steps_of c.args.steps.items) _ _ _ _ c.in_err-load_all.field-0.0 w (c.in_err-load_all.ensures.stopped honest d w.state w.at (host_after g.H.Host.store d s w.state c.take_steps.new.host (steps_of c.args.steps.items) (steps_of c.args.steps.items) [] w.entries (append-nil _) w.leads (host_with g.H.Host.store d s (steps_of c.args.steps.items) _ _ (c.in_ok-take_steps.ensures.host before).1 i))))

pub returns-clause-answered : goal.returns-clause-answered
returns-clause-answered g c = carried _ _ c.finish.result
    (λ r p honest d s h i b.
    let before = (c.in_ok-load_all.ensures.host honest).0 in
    let w = c.in_ok-take_steps.ensures.did before d s h i b in
    let v = c.in_ok-load_all.ensures.did honest d w.state w.at (host_after g.H.Host.store d s w.state c.take_steps.new.host (steps_of c.args.steps.items) (steps_of c.args.steps.items) [] w.entries (append-nil _) w.leads (host_with g.H.Host.store d s (steps_of c.args.steps.items) _ _ (c.in_ok-take_steps.ensures.host before).1 i)) in
    comes_to (g.E.SessionCalls.stands d) d s (steps_of c.args.steps.items) _ _ _ _ _ w v (answer_of r) (p d v.state v.at v.leads.1)) c.finish.ensures.answered

pub returns-clause-stopped : goal.returns-clause-stopped
returns-clause-stopped g c = carried_err _ _ c.finish.result
    (λ stop p honest d s h i b.
    let before = (c.in_ok-load_all.ensures.host honest).0 in
    let w = c.in_ok-take_steps.ensures.did before d s h i b in
    let v = c.in_ok-load_all.ensures.did honest d w.state w.at (host_after g.H.Host.store d s w.state c.take_steps.new.host (steps_of c.args.steps.items) (steps_of c.args.steps.items) [] w.entries (append-nil _) w.leads (host_with g.H.Host.store d s (steps_of c.args.steps.items) _ _ (c.in_ok-take_steps.ensures.host before).1 i)) in
    halts_last (g.E.SessionCalls.stands d) d s (steps_of c.args.steps.items) _ _ _ _ _ w v stop (p d v.state v.at v.leads.1)) c.finish.ensures.stopped

pub returns-in_err-take_steps-clause-beyond : goal.returns-in_err-take_steps-clause-beyond
returns-in_err-take_steps-clause-beyond g c = handed _ c.in_err-take_steps.field-0.0 c.from_residual.result c.from_residual.ensures.1 c.in_err-take_steps.ensures.beyond

pub returns-in_err-load_all-clause-beyond : goal.returns-in_err-load_all-clause-beyond
returns-in_err-load_all-clause-beyond g c = handed _ c.in_err-load_all.field-0.0 c.from_residual-in_err-load_all.result c.from_residual-in_err-load_all.ensures.1
    (λ first h. c.in_err-load_all.ensures.beyond first (c.in_ok-take_steps.ensures.asked first h))

pub returns-clause-asked : goal.returns-clause-asked
returns-clause-asked g c = carried_to _ c.finish.result (λ first h. c.in_ok-load_all.ensures.asked first (c.in_ok-take_steps.ensures.asked first h))

pub returns-clause-beyond : goal.returns-clause-beyond
returns-clause-beyond g c = carried_err _ _ c.finish.result
    (λ stop p first h.
    let es = entries_of c.load_all.new.entries.items in
    let asked = g.H.Host.asked c.load_all.new.host in
    beyond_on first asked asked es es stop (c.in_ok-load_all.ensures.asked first (c.in_ok-take_steps.ensures.asked first h)) refl (alone_beyond asked stop p)) c.finish.ensures.alone

pub returns-clause-faults : goal.returns-clause-faults
returns-clause-faults g c = carried_to _ c.finish.result (c.in_ok-load_all.ensures.faults ∙ c.in_ok-take_steps.ensures.faults)

pub returns-in_err-take_steps-clause-counted : goal.returns-in_err-take_steps-clause-counted
returns-in_err-take_steps-clause-counted g c = handed _ c.in_err-take_steps.field-0.0 c.from_residual.result c.from_residual.ensures.1 c.in_err-take_steps.ensures.counted

pub returns-in_err-load_all-clause-counted : goal.returns-in_err-load_all-clause-counted
returns-in_err-load_all-clause-counted g c =
    let stop = c.in_err-load_all.field-0.0 in
    handed _ stop c.from_residual-in_err-load_all.result c.from_residual-in_err-load_all.ensures.1 (c.in_err-load_all.ensures.counted ∙ ap (count_after stop) c.in_ok-take_steps.ensures.faults)

pub returns-clause-counted : goal.returns-clause-counted
returns-clause-counted g c = carried_err _ _ c.finish.result (λ stop p. kept_count stop _ _ p (c.in_ok-load_all.ensures.faults ∙ c.in_ok-take_steps.ensures.faults)) c.finish.ensures.counted

pub returns-in_err-take_steps-clause-last : goal.returns-in_err-take_steps-clause-last
returns-in_err-take_steps-clause-last g c = on_err _ c.from_residual.result c.in_err-take_steps.ensures.last

pub returns-in_err-load_all-clause-last : goal.returns-in_err-load_all-clause-last
returns-in_err-load_all-clause-last g c = on_err _ c.from_residual-in_err-load_all.result
    (λ honest d s first h i b a.
    let before = (c.in_err-load_all.ensures.host honest).0 in
    let w = c.in_ok-take_steps.ensures.did before d s h i b in
    rounds_last (g.E.SessionCalls.stands d) d s (steps_of c.args.steps.items) _ _ _ _ first _ w (c.in_err-load_all.ensures.last honest d w.state first w.at (host_after g.H.Host.store d s w.state c.take_steps.new.host (steps_of c.args.steps.items) (steps_of c.args.steps.items) [] w.entries (append-nil _) w.leads (host_with g.H.Host.store d s (steps_of c.args.steps.items) _ _ (c.in_ok-take_steps.ensures.host before).1 i)) (c.in_ok-take_steps.ensures.asked first a)))

pub returns-clause-last : goal.returns-clause-last
returns-clause-last g c = on_err _ c.finish.result
    (λ honest d s first h i b a.
    let before = (c.in_ok-load_all.ensures.host honest).0 in
    let w = c.in_ok-take_steps.ensures.did before d s h i b in
    let v = c.in_ok-load_all.ensures.did honest d w.state w.at (host_after g.H.Host.store d s w.state c.take_steps.new.host (steps_of c.args.steps.items) (steps_of c.args.steps.items) [] w.entries (append-nil _) w.leads (host_with g.H.Host.store d s (steps_of c.args.steps.items) _ _ (c.in_ok-take_steps.ensures.host before).1 i)) in
    answer_last (g.E.SessionCalls.stands d) d s (steps_of c.args.steps.items) _ _ _ _ _ first _ w v (c.in_ok-load_all.ensures.asked first (c.in_ok-take_steps.ensures.asked first a)))
