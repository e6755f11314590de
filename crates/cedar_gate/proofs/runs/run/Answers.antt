use Rattle.std.proofs.Common.{sym, subst}
use Rattle.cedar_gate_model.specs.RunsAnswer.{Course}
use Rattle.cedar_gate_openings.specs.Faults.{IsOpenFault}
use Rattle.cedar_gate.proofs.Courses.{accepted_at, admitted_at}
use Rattle.cedar_gate.proofs.Opening.{asks_nothing, done_nothing_keeps, run_by}
use Rattle.cedar_gate.proofs.runs.run.Goals as goal

pub returns-in-Ok-clause-run : goal.returns-in-Ok-clause-run
returns-in-Ok-clause-run g c = λ honest d r. c.run_session.ensures.run honest d (run_by c.args.gate.now c.args.request c.args.steps.items _ c.args.host.now c.in-Ok.session c.in-Ok.ensures.opens c.in-Ok.ensures.stands d r)

pub returns-in-Ok-clause-promises : goal.returns-in-Ok-clause-promises
returns-in-Ok-clause-promises g c = λ honest d r.
    c.run_session.ensures.promises honest d (run_by c.args.gate.now c.args.request c.args.steps.items _ c.args.host.now c.in-Ok.session c.in-Ok.ensures.opens c.in-Ok.ensures.stands d r)
    (admitted_at c.args.gate.now c.args.request c.args.steps.items d c.context_is_made.ensures r.course) r.course.fair.fair

pub returns-in-Ok-clause-asked : goal.returns-in-Ok-clause-asked
returns-in-Ok-clause-asked g c = λ honest d r opens.
    c.run_session.ensures.asked honest d (run_by c.args.gate.now c.args.request c.args.steps.items _ c.args.host.now c.in-Ok.session c.in-Ok.ensures.opens c.in-Ok.ensures.stands d r)

pub returns-in-Err-clause-run : goal.returns-in-Err-clause-run
returns-in-Err-clause-run g c = λ honest d r. c.not_opened.ensures.stopped d (subst (λ q. IsOpenFault q c.in-Err.fault) r.course.start c.in-Err.ensures.refused)

pub returns-in-Err-clause-promises : goal.returns-in-Err-clause-promises
returns-in-Err-clause-promises g c = λ honest d r. done_nothing_keeps d _ c.not_opened.ensures.nothing (accepted_at c.args.gate.now d.submission r.course.submission)

pub returns-in-Err-clause-host : goal.returns-in-Err-clause-host
returns-in-Err-clause-host g c = record { lists = c.not_opened.ensures.alone _; counted = sym (c.not_opened.ensures.counted _) }

pub returns-in-Err-clause-asked : goal.returns-in-Err-clause-asked
returns-in-Err-clause-asked g c = λ honest d r opens. asks_nothing d c.not_opened.result _ c.not_opened.ensures.nothing opens
