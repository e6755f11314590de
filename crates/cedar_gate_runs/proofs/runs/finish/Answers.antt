use Rattle.std.proofs.Common.{[], refl, sym, subst}
use Rattle.cedar_store_model.specs.Answer.{answer_of}
use Rattle.cedar_gate_model.specs.RunsAnswer.{session_of}
use Rattle.cedar_gate_model.specs.Session.{world_now}
use Rattle.cedar_gate_runs.proofs.Asked.{answer_beyond}
use Rattle.cedar_gate_runs.proofs.Faulted.{answer_stops}
use Rattle.cedar_gate_runs.specs.Asking.{IsBeyond}
use Rattle.cedar_gate_runs.specs.Stopping.{IsRefused}
use Rattle.cedar_gate_runs.proofs.Losing.{answer_counts}
use Rattle.cedar_gate_runs.specs.Counting.{KeepsCount}
use Rattle.cedar_gate_runs.proofs.runs.finish.Goals as goal

pub returns-in-Ok-clause-answered : goal.returns-in-Ok-clause-answered
returns-in-Ok-clause-answered g c = λ d s h none.
    record { answer = answer_of (world_now (session_of d) s) d.submission.policies; same = c.in-Ok.ensures.answer d s h; finishes = (none, c.in-Ok.ensures.given d s h, refl) }

pub returns-in-Err-clause-stopped : goal.returns-in-Err-clause-stopped
returns-in-Err-clause-stopped g c = λ d s h none.
    subst (IsRefused (session_of d) d.submission.policies s [] []) (sym c.answering.ensures) (answer_stops (session_of d) d.submission.policies s c.in-Err.refusal none (c.in-Err.ensures.refused d s h))

pub returns-in-Err-clause-alone : goal.returns-in-Err-clause-alone
returns-in-Err-clause-alone g c = subst (λ s. IsBeyond s []) (sym c.answering.ensures) (answer_beyond c.in-Err.refusal)

pub returns-in-Err-clause-counted : goal.returns-in-Err-clause-counted
returns-in-Err-clause-counted g c = subst KeepsCount (sym c.answering.ensures) (answer_counts c.in-Err.refusal)
