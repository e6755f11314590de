use Rattle.std.proofs.Common.{[], ◌∷◌, sym, subst}
use Rattle.std.specs.Rc.{rc_str_bytes}
use Rattle.cedar_expr_values.specs.Extensions.{extension_of}
use Rattle.cedar_expr_values.specs.Values.{made}
use Rattle.cedar_gate_model.specs.RunsAnswer.{session_of}
use Rattle.cedar_gate_model.specs.Transcript.{bind_name}
use Rattle.cedar_gate_runs.proofs.Asked.{bind_beyond}
use Rattle.cedar_gate_runs.proofs.Faulted.{bind_stops}
use Rattle.cedar_gate_runs.specs.Asking.{IsBeyond}
use Rattle.cedar_gate_runs.specs.Stopping.{IsRefused}
use Rattle.cedar_gate_runs.proofs.Losing.{bind_counts}
use Rattle.cedar_gate_runs.specs.Counting.{KeepsCount}
use Rattle.cedar_gate_runs.proofs.stepping.bind_in.Goals as goal

pub returns-in-Err-clause-stopped : goal.returns-in-Err-clause-stopped
returns-in-Err-clause-stopped g c = λ d s rest h.
    let n = rc_str_bytes c.args.name in
    let m = made extension_of c.args.value in
    subst (IsRefused (session_of d) d.submission.policies s (bind_name n m ∷ rest) []) (sym c.binding.ensures) (bind_stops (session_of d) d.submission.policies s n m rest c.in-Err.refusal (c.in-Err.ensures.refused d s h))

pub returns-in-Err-clause-alone : goal.returns-in-Err-clause-alone
returns-in-Err-clause-alone g c = subst (λ s. IsBeyond s []) (sym c.binding.ensures) (bind_beyond c.in-Err.refusal)

pub returns-in-Err-clause-counted : goal.returns-in-Err-clause-counted
returns-in-Err-clause-counted g c = subst KeepsCount (sym c.binding.ensures) (bind_counts c.in-Err.refusal)
