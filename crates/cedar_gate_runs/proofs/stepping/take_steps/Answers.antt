use Rattle.std.proofs.Common.{rules, ◌≡◌, [], ◌∷◌, ◌++◌, refl, sym, ap, ◌∙◌, subst, append_assoc}
use Rattle.std.proofs.lemmas.List.{append-nil, map-append, nil_from_length}
use Rattle.std.specs.Vec.Iter.{into_iter_items}
use Rattle.cedar_gate_model.specs.RunsAnswer.{session_of}
use Rattle.cedar_gate_runs.proofs.Asked.{beyond_on}
use Rattle.cedar_gate_runs.proofs.Hosted.{host_after, host_with, stays_on}
use Rattle.cedar_gate_runs.proofs.Looped.{went_none, halts_on, one_represented}
use Rattle.cedar_gate_runs.proofs.Pushed.{handed}
use Rattle.cedar_gate_runs.proofs.Stepped.{went_more}
use Rattle.cedar_gate_runs.specs.Courses.{BindRepresented, DidSteps}
use Rattle.cedar_gate_runs.specs.Running.{Went}
use Rattle.cedar_gate_runs.specs.Steps.{step_of, steps_of}
use Rattle.cedar_gate_runs.specs.Transcripts.{entries_of}
use Rattle.cedar_gate_runs.proofs.Losing.{on_err, step_last}
use Rattle.cedar_gate_runs.specs.Counting.{count_after}
use Rattle.cedar_gate_runs.proofs.stepping.take_steps.Goals as goal

pub loop-step-init : goal.loop-step-init
loop-step-init g c = record {
  goes = search rules;
  faults = refl;
  asked = λ first h. h;
  host = λ honest. (honest, refl);
  went = λ honest d s h i b. went_none (g.E.SessionCalls.stands d) d s _ _ h;
}

pub loop-step-preserved : goal.loop-step-preserved
loop-step-preserved g c =
    let i = c.loop-step.invariant in
    let ys = c.loop-step.yielded in
    let step = c.in-Some.step in
    let rest = into_iter_items c.next.new.self in
    let all = i.goes ∙ ap (λ zs. ys ++ zs) c.in-Some.ensures.steps.0 in
    record {
      goes = all ∙ sym (append_assoc ys (step ∷ []) rest);
      faults = c.in_ok-take_step.ensures.faults ∙ i.faults;
      asked = λ first h. c.in_ok-take_step.ensures.asked first (i.asked first h);
      host = stays_on g.H.Host.honest g.H.Host.store _ _ _ i.host c.in_ok-take_step.ensures.host;
      went = λ honest d s h k b.
          let before = (c.in_ok-take_step.ensures.host honest).0 in
          let w = i.went before d s h k b in
          let each = ap steps_of all ∙ map-append step_of ys (step ∷ rest) in
          let one = one_represented d (steps_of ys) (step_of step) (steps_of rest) (subst (BindRepresented d) each b) in
          let v = c.in_ok-take_step.ensures.did honest d w.state w.at (host_after g.H.Host.store d s w.state c.loop-step.host (steps_of c.args.steps.items) (steps_of ys) (step_of step ∷ steps_of rest) w.entries (sym each) w.leads (host_with g.H.Host.store d s (steps_of c.args.steps.items) _ _ (i.host before).1 k)) one in
          let more = went_more (session_of d) d.submission.policies (g.E.SessionCalls.stands d) s (steps_of ys) (step_of step) _ _ _ _ _ w v in
          subst (λ zs. Went (g.E.SessionCalls.stands d) (DidSteps d s zs) (entries_of c.args.entries.now.items) (entries_of c.take_step.new.entries.items) c.take_step.new.session) (sym (map-append step_of ys (step ∷ []))) more;
    }

pub returns-in_err-take_step-clause-stopped : goal.returns-in_err-take_step-clause-stopped
returns-in_err-take_step-clause-stopped g c =
    let i = c.loop-step.invariant in
    let ys = c.loop-step.yielded in
    let step = c.in-Some.step in
    let rest = into_iter_items c.next.new.self in
    let all = i.goes ∙ ap (λ zs. ys ++ zs) c.in-Some.ensures.steps.0 in
    handed _ c.in_err-take_step.field-0.0 c.from_residual.result c.from_residual.ensures.1
    (λ honest d s h k b.
    let before = (c.in_err-take_step.ensures.host honest).0 in
    let w = i.went before d s h k b in
    let each = ap steps_of all ∙ map-append step_of ys (step ∷ rest) in
    halts_on (g.E.SessionCalls.stands d) d s (steps_of c.args.steps.items) (steps_of ys) (step_of step ∷ steps_of rest) _ _ _ _ c.in_err-take_step.field-0.0 (sym each) c.in_err-take_step.ensures.unchanged w
    (c.in_err-take_step.ensures.stopped honest d w.state (steps_of rest) w.at (host_after g.H.Host.store d s w.state c.loop-step.host (steps_of c.args.steps.items) (steps_of ys) (step_of step ∷ steps_of rest) w.entries (sym each) w.leads (host_with g.H.Host.store d s (steps_of c.args.steps.items) _ _ (i.host before).1 k))))

pub returns-clause-did : goal.returns-clause-did
returns-clause-did g c = λ honest d s h i b.
    let ys = c.loop-step.yielded in
    let none : into_iter_items c.loop-step.step-iterator ≡ [] = nil_from_length _ (sym c.loop-step.step-iterator.rest.ok.0 ∙ c.in-None.ensures.steps.0) in
    let e : c.args.steps.items ≡ ys = c.loop-step.invariant.goes ∙ ap (λ zs. ys ++ zs) none ∙ append-nil ys in
    subst (λ zs. Went (g.E.SessionCalls.stands d) (DidSteps d s (steps_of zs)) (entries_of c.args.entries.now.items) (entries_of c.loop-step.entries.items) c.loop-step.session) (sym e) (c.loop-step.invariant.went honest d s h i b)

pub returns-in_err-take_step-clause-host : goal.returns-in_err-take_step-clause-host
returns-in_err-take_step-clause-host g c = stays_on g.H.Host.honest g.H.Host.store _ _ _ c.loop-step.invariant.host c.in_err-take_step.ensures.host

pub returns-in_err-take_step-clause-beyond : goal.returns-in_err-take_step-clause-beyond
returns-in_err-take_step-clause-beyond g c = handed _ c.in_err-take_step.field-0.0 c.from_residual.result c.from_residual.ensures.1
    (λ first h. beyond_on first _ _ _ _ c.in_err-take_step.field-0.0 (c.loop-step.invariant.asked first h) c.in_err-take_step.ensures.unchanged c.in_err-take_step.ensures.beyond)

pub returns-clause-asked : goal.returns-clause-asked
returns-clause-asked g c = c.loop-step.invariant.asked

pub returns-in_err-take_step-clause-counted : goal.returns-in_err-take_step-clause-counted
returns-in_err-take_step-clause-counted g c =
    let stop = c.in_err-take_step.field-0.0 in
    handed _ stop c.from_residual.result c.from_residual.ensures.1 (c.in_err-take_step.ensures.counted ∙ ap (count_after stop) c.loop-step.invariant.faults)

pub returns-in_err-take_step-clause-last : goal.returns-in_err-take_step-clause-last
returns-in_err-take_step-clause-last g c =
    let i = c.loop-step.invariant in
    let ys = c.loop-step.yielded in
    let step = c.in-Some.step in
    let rest = into_iter_items c.next.new.self in
    let all = i.goes ∙ ap (λ zs. ys ++ zs) c.in-Some.ensures.steps.0 in
    on_err _ c.from_residual.result
    (λ honest d s first h k b a.
    let w = i.went (c.in_err-take_step.ensures.host honest).0 d s h k b in
    let each = ap steps_of all ∙ map-append step_of ys (step ∷ rest) in
    step_last (g.E.SessionCalls.stands d) d s (steps_of c.args.steps.items) (steps_of ys) (step_of step ∷ steps_of rest) _ _ _ _ first _ _ (sym each) c.in_err-take_step.ensures.unchanged w (i.asked first a)
    (c.in_err-take_step.ensures.last d w.state w.at))
