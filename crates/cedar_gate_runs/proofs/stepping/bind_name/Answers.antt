use Rattle.std.proofs.Common.{rules, ◌≡◌, [], ◌∷◌, refl, ap}
use Rattle.std.specs.Rc.{rc_str_bytes}
use Rattle.cedar_expr_values.specs.Extensions.{extension_of}
use Rattle.cedar_expr_values.specs.Values.{made}
use Rattle.cedar_gate_model.specs.RunsAnswer.{session_of}
use Rattle.cedar_gate_model.specs.Session.{with_bound}
use Rattle.cedar_gate_model.specs.Transcript.{bound}
use Rattle.cedar_gate_runs.proofs.Asked.{memory_beyond, no_more}
use Rattle.cedar_gate_runs.proofs.Pushed.{handed, pushed_in_room}
use Rattle.cedar_gate_runs.proofs.Stepped.{binds}
use Rattle.cedar_gate_runs.specs.declared.stops_with.Stop.TheVariants.{Memory}
use Rattle.cedar_gate_runs.proofs.Losing.{memory_counts}
use Rattle.cedar_gate_runs.proofs.stepping.bind_name.Goals as goal

pub returns-in_err-copy-clause-stopped : goal.returns-in_err-copy-clause-stopped
returns-in_err-copy-clause-stopped g c = handed _ Memory c.from_residual.result c.from_residual.ensures.1 (λ d s rest h. tt)

pub returns-in_err-bind_in-clause-stopped : goal.returns-in_err-bind_in-clause-stopped
returns-in_err-bind_in-clause-stopped g c = handed _ c.in_err-bind_in.field-0.0 c.from_residual-in_err-bind_in.result c.from_residual-in_err-bind_in.ensures.1 c.in_err-bind_in.ensures.stopped

pub returns-in_err-push-clause-stopped : goal.returns-in_err-push-clause-stopped
returns-in_err-push-clause-stopped g c = handed _ Memory c.from_residual-in_err-push.result c.from_residual-in_err-push.ensures.1 (λ d s rest h. tt)

pub returns-clause-did : goal.returns-clause-did
returns-clause-did g c = λ d s h w.
    let n = rc_str_bytes c.args.name in
    let m = made extension_of c.args.value in
    let same : rc_str_bytes c.in_ok-copy.copy ≡ n = search rules in
    record {
      entries = bound n ∷ [];
      state = with_bound s n m;
      leads = binds (session_of d) d.submission.policies s n m (c.in_ok-bind_in.ensures.taken d s h);
      added = pushed_in_room _ _ _ _ (bound n) c.in_ok-reserve.ensures.items c.in_ok-push.ensures.items (ap bound same);
      at = c.in_ok-bind_in.ensures.at d s h w;
    }

pub returns-clause-rounds : goal.returns-clause-rounds
returns-clause-rounds g c =
    let same : rc_str_bytes c.in_ok-copy.copy ≡ rc_str_bytes c.args.name = search rules in
    no_more _ _ (bound (rc_str_bytes c.args.name)) refl (pushed_in_room _ _ _ _ (bound (rc_str_bytes c.args.name)) c.in_ok-reserve.ensures.items c.in_ok-push.ensures.items (ap bound same))

pub returns-in_err-reserve-clause-stopped : goal.returns-in_err-reserve-clause-stopped
returns-in_err-reserve-clause-stopped g c = handed _ Memory c.from_residual-in_err-reserve.result c.from_residual-in_err-reserve.ensures.1 (λ d s rest h. tt)

pub returns-in_err-copy-clause-alone : goal.returns-in_err-copy-clause-alone
returns-in_err-copy-clause-alone g c = handed _ Memory c.from_residual.result c.from_residual.ensures.1 memory_beyond

pub returns-in_err-reserve-clause-alone : goal.returns-in_err-reserve-clause-alone
returns-in_err-reserve-clause-alone g c = handed _ Memory c.from_residual-in_err-reserve.result c.from_residual-in_err-reserve.ensures.1 memory_beyond

pub returns-in_err-bind_in-clause-alone : goal.returns-in_err-bind_in-clause-alone
returns-in_err-bind_in-clause-alone g c = handed _ c.in_err-bind_in.field-0.0 c.from_residual-in_err-bind_in.result c.from_residual-in_err-bind_in.ensures.1 c.in_err-bind_in.ensures.alone

pub returns-in_err-push-clause-alone : goal.returns-in_err-push-clause-alone
returns-in_err-push-clause-alone g c = handed _ Memory c.from_residual-in_err-push.result c.from_residual-in_err-push.ensures.1 memory_beyond

pub returns-in_err-copy-clause-counted : goal.returns-in_err-copy-clause-counted
returns-in_err-copy-clause-counted g c = handed _ Memory c.from_residual.result c.from_residual.ensures.1 memory_counts

pub returns-in_err-reserve-clause-counted : goal.returns-in_err-reserve-clause-counted
returns-in_err-reserve-clause-counted g c = handed _ Memory c.from_residual-in_err-reserve.result c.from_residual-in_err-reserve.ensures.1 memory_counts

pub returns-in_err-bind_in-clause-counted : goal.returns-in_err-bind_in-clause-counted
returns-in_err-bind_in-clause-counted g c = handed _ c.in_err-bind_in.field-0.0 c.from_residual-in_err-bind_in.result c.from_residual-in_err-bind_in.ensures.1 c.in_err-bind_in.ensures.counted

pub returns-in_err-push-clause-counted : goal.returns-in_err-push-clause-counted
returns-in_err-push-clause-counted g c = handed _ Memory c.from_residual-in_err-push.result c.from_residual-in_err-push.ensures.1 memory_counts
