use Rattle.std.proofs.Common.{[], ◌∷◌, refl, sym, subst}
use Rattle.std.specs.Rc.{rc_str_bytes}
use Rattle.cedar_expr_values.specs.Extensions.{extension_of}
use Rattle.cedar_expr_values.specs.Values.{made}
use Rattle.cedar_gate_model.specs.RunsAnswer.{session_of}
use Rattle.cedar_gate_runs.proofs.Asked.{alone_beyond, asked_alone, memory_beyond}
use Rattle.cedar_gate_runs.proofs.Ended.{carried_err}
use Rattle.cedar_gate_runs.proofs.Looped.{bound_represented}
use Rattle.cedar_gate_runs.proofs.Pushed.{handed, carried_ok}
use Rattle.cedar_gate_runs.proofs.Stepped.{load_stops}
use Rattle.cedar_gate_runs.specs.Asking.{AskedBeyond}
use Rattle.cedar_gate_runs.specs.Courses.{BindRepresented, DidSteps}
use Rattle.cedar_gate_runs.specs.Running.{Went}
use Rattle.cedar_gate_runs.specs.Steps.{step_of}
use Rattle.cedar_gate_runs.specs.Stopping.{IsRefused}
use Rattle.cedar_gate_runs.specs.declared.stops_with.Stop.TheVariants.{Memory}
use Rattle.cedar_gate_runs.specs.Transcripts.{entries_of}
use Rattle.cedar_gate_runs.proofs.Losing.{on_err, none_last, kept_count, memory_counts}
use Rattle.cedar_gate_runs.specs.Counting.{KeepsCount}
use Rattle.cedar_gate_runs.proofs.stepping.take_step.Goals as goal

pub returns-in_err-load-in-Load-clause-stopped : goal.returns-in_err-load-in-Load-clause-stopped
returns-in_err-load-in-Load-clause-stopped g c =
    let stop = c.in_err-load-in-Load.field-0.0 in
    handed _ stop c.from_residual.result c.from_residual.ensures.1
    (λ honest d s rest h i.
    subst (λ z. IsRefused (session_of d) d.submission.policies s (step_of z ∷ rest) [] stop) (sym c.in-Load.is)
    (load_stops (session_of d) d.submission.policies s stop rest (c.in_err-load-in-Load.ensures.stopped honest d s h i)))

pub returns-in-Bind-clause-did : goal.returns-in-Bind-clause-did
returns-in-Bind-clause-did g c = carried_ok _ _ c.bind_name.result
    (λ p honest d s h i b.
    let well = bound_represented d (rc_str_bytes c.in-Bind.name) (made extension_of c.in-Bind.value) (subst (λ z. BindRepresented d (step_of z ∷ [])) c.in-Bind.is b) in
    subst (λ z. Went (g.E.SessionCalls.stands d) (DidSteps d s (step_of z ∷ [])) (entries_of c.args.entries.now.items) (entries_of c.bind_name.new.entries.items) c.bind_name.new.session) (sym c.in-Bind.is) (p d s h well))
    c.bind_name.ensures.did

pub returns-in-Bind-clause-stopped : goal.returns-in-Bind-clause-stopped
returns-in-Bind-clause-stopped g c = carried_err _ _ c.bind_name.result
    (λ stop p honest d s rest h i. subst (λ z. IsRefused (session_of d) d.submission.policies s (step_of z ∷ rest) [] stop) (sym c.in-Bind.is) (p d s rest h)) c.bind_name.ensures.stopped

pub returns-in-Decide-clause-did : goal.returns-in-Decide-clause-did
returns-in-Decide-clause-did g c = carried_ok _ _ c.decide.result
    (λ p honest d s h i b. subst (λ z. Went (g.E.SessionCalls.stands d) (DidSteps d s (step_of z ∷ [])) (entries_of c.args.entries.now.items) (entries_of c.decide.new.entries.items) c.args.session.now) (sym c.in-Decide.is) (p d s h))
    c.decide.ensures.did

pub returns-in_err-load-in-Load-clause-beyond : goal.returns-in_err-load-in-Load-clause-beyond
returns-in_err-load-in-Load-clause-beyond g c = handed _ c.in_err-load-in-Load.field-0.0 c.from_residual.result c.from_residual.ensures.1 c.in_err-load-in-Load.ensures.beyond

pub returns-in-Bind-clause-asked : goal.returns-in-Bind-clause-asked
returns-in-Bind-clause-asked g c = carried_ok _ _ c.bind_name.result (λ p first h. asked_alone first (g.H.Host.asked c.args.host.now) (entries_of c.args.entries.now.items) (entries_of c.bind_name.new.entries.items) p h) c.bind_name.ensures.rounds

pub returns-in-Bind-clause-beyond : goal.returns-in-Bind-clause-beyond
returns-in-Bind-clause-beyond g c = carried_err _ _ c.bind_name.result (λ stop p. alone_beyond (g.H.Host.asked c.args.host.now) stop p) c.bind_name.ensures.alone

pub returns-in-Decide-clause-asked : goal.returns-in-Decide-clause-asked
returns-in-Decide-clause-asked g c = carried_ok _ _ c.decide.result (λ p first h. asked_alone first (g.H.Host.asked c.args.host.now) (entries_of c.args.entries.now.items) (entries_of c.decide.new.entries.items) p h) c.decide.ensures.rounds

pub returns-in-Decide-clause-beyond : goal.returns-in-Decide-clause-beyond
returns-in-Decide-clause-beyond g c =
    carried_err _ _ c.decide.result (λ stop p. subst (AskedBeyond (g.H.Host.asked c.args.host.now) (g.H.Host.asked c.args.host.now)) (sym p) (alone_beyond (g.H.Host.asked c.args.host.now) Memory memory_beyond)) c.decide.ensures.stopped

pub returns-in_err-load-in-Load-clause-counted : goal.returns-in_err-load-in-Load-clause-counted
returns-in_err-load-in-Load-clause-counted g c = handed _ c.in_err-load-in-Load.field-0.0 c.from_residual.result c.from_residual.ensures.1 c.in_err-load-in-Load.ensures.counted

pub returns-in-Bind-clause-counted : goal.returns-in-Bind-clause-counted
returns-in-Bind-clause-counted g c = carried_err _ _ c.bind_name.result (λ stop p. kept_count stop _ _ p refl) c.bind_name.ensures.counted

pub returns-in-Decide-clause-counted : goal.returns-in-Decide-clause-counted
returns-in-Decide-clause-counted g c = carried_err _ _ c.decide.result (λ stop p. kept_count stop _ _ (subst KeepsCount (sym p) memory_counts) refl) c.decide.ensures.stopped

pub returns-in_err-load-in-Load-clause-last : goal.returns-in_err-load-in-Load-clause-last
returns-in_err-load-in-Load-clause-last g c = on_err _ c.from_residual.result c.in_err-load-in-Load.ensures.last

pub returns-in-Bind-clause-last : goal.returns-in-Bind-clause-last
returns-in-Bind-clause-last g c = on_err _ c.bind_name.result (λ d s h. none_last (session_of d) s _)

pub returns-in-Decide-clause-last : goal.returns-in-Decide-clause-last
returns-in-Decide-clause-last g c = on_err _ c.decide.result (λ d s h. none_last (session_of d) s _)
