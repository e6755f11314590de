use Rattle.std.proofs.Common.{[], ◌∷◌, map, inl, inr, sym, subst, ◌∙◌}
use Rattle.cedar_expr_names.specs.Views.{uid_of}
use Rattle.cedar_gate_model.specs.Runs.{supplied_by, with_asked}
use Rattle.cedar_gate_model.specs.RunsAnswer.{session_of}
use Rattle.cedar_gate_model.specs.Session.{SupplyFault}
use Rattle.cedar_gate_runs.proofs.Asked.{host_beyond, supply_beyond}
use Rattle.cedar_gate_runs.proofs.Faulted.{host_stops, supply_stops}
use Rattle.cedar_gate_runs.proofs.Hosted.{supplied_is, are_answers}
use Rattle.cedar_gate_runs.proofs.Pushed.{handed}
use Rattle.std.proofs.lemmas.List.{append-nil}
use Rattle.cedar_gate_runs.specs.Asking.{AskedBeyond}
use Rattle.cedar_gate_runs.specs.Refusals.{IsSupplyRefusal}
use Rattle.cedar_gate_runs.specs.Running.{StopsSupply}
use Rattle.cedar_gate_runs.specs.StopsWith.{host_stop}
use Rattle.cedar_gate_runs.proofs.Losing.{on_err, host_counts, supply_counts, kept_count}
use Rattle.cedar_gate_runs.specs.Counting.{KeepsCount}
use Rattle.cedar_gate_runs.proofs.loading.take_in.Goals as goal

pub returns-in_err-supplied-clause-host : goal.returns-in_err-supplied-clause-host
returns-in_err-supplied-clause-host g c = λ honest. (c.in_err-supplied.ensures.honest honest, c.in_err-supplied.ensures.store honest)

pub returns-in_err-supplied-clause-refused : goal.returns-in_err-supplied-clause-refused
returns-in_err-supplied-clause-refused g c = handed _ (host_stop c.in_err-supplied.field-0.0) c.from_residual.result c.from_residual.ensures.1 (λ honest d s h i. host_stops (session_of d) s _ c.in_err-supplied.field-0.0)

pub returns-in-Ok-clause-host : goal.returns-in-Ok-clause-host
returns-in-Ok-clause-host g c = λ honest. (c.in_ok-supplied.ensures.honest honest, c.in_ok-supplied.ensures.store honest)

pub returns-in-Ok-clause-at : goal.returns-in-Ok-clause-at
returns-in-Ok-clause-at g c = λ honest d s h i w e.
    let us = map uid_of c.args.wanted.now in
    let a = are_answers g.H.Host.store d s c.args.host.now i c.in_ok-supplied.supplied.items us (c.in_ok-supplied.ensures.answers honest) w in
    subst (λ vs. g.E.SessionCalls.stands d (with_asked s vs) c.supply.new.self) (sym e) (c.in-Ok.ensures.at d s h a)

pub returns-in-Ok-clause-taken : goal.returns-in-Ok-clause-taken
returns-in-Ok-clause-taken g c = λ honest d s h i f k.
    let us = map uid_of c.args.wanted.now in
    let e = supplied_is g.H.Host.store d s c.args.host.now i c.in_ok-supplied.supplied.items us (c.in_ok-supplied.ensures.answers honest) in
    c.in-Ok.ensures.taken d s h f (subst (λ ps. SupplyFault (session_of d) s ps f) (sym e) k)

pub returns-in-Err-clause-host : goal.returns-in-Err-clause-host
returns-in-Err-clause-host g c = λ honest. (c.in_ok-supplied.ensures.honest honest, c.in_ok-supplied.ensures.store honest)

pub returns-in-Err-clause-refused : goal.returns-in-Err-clause-refused
returns-in-Err-clause-refused g c = λ honest d s h i.
    let us = map uid_of c.args.wanted.now in
    let e = supplied_is g.H.Host.store d s c.args.host.now i c.in_ok-supplied.supplied.items us (c.in_ok-supplied.ensures.answers honest) in
    subst (StopsSupply (session_of d) s (supplied_by (session_of d) us)) (sym c.supplying.ensures)
    (supply_stops (session_of d) s (supplied_by (session_of d) us) c.in-Err.refusal (subst (λ ps. IsSupplyRefusal (session_of d) s ps c.in-Err.refusal) e (c.in-Err.ensures.refused d s h)))

pub returns-in_err-supplied-clause-beyond : goal.returns-in_err-supplied-clause-beyond
returns-in_err-supplied-clause-beyond g c =
    handed _ (host_stop c.in_err-supplied.field-0.0) c.from_residual.result c.from_residual.ensures.1 ([], host_beyond c.in_err-supplied.field-0.0, c.in_err-supplied.ensures.asked ∙ sym (append-nil _))

pub returns-in-Err-clause-beyond : goal.returns-in-Err-clause-beyond
returns-in-Err-clause-beyond g c =
    subst (AskedBeyond (g.H.Host.asked c.args.host.now) (g.H.Host.asked c.fetch.new.self)) (sym c.supplying.ensures) (map uid_of c.args.wanted.now ∷ [], supply_beyond c.in-Err.refusal _, c.in_ok-supplied.ensures.asked)

pub returns-in_err-supplied-clause-counted : goal.returns-in_err-supplied-clause-counted
returns-in_err-supplied-clause-counted g c = handed _ (host_stop c.in_err-supplied.field-0.0) c.from_residual.result c.from_residual.ensures.1 (host_counts (Unit {0}) c.in_err-supplied.field-0.0 _ _ c.in_err-supplied.ensures.faults)

pub returns-in_err-supplied-clause-last : goal.returns-in_err-supplied-clause-last
returns-in_err-supplied-clause-last g c = on_err _ c.from_residual.result (inl c.in_err-supplied.ensures.asked)

pub returns-in-Err-clause-counted : goal.returns-in-Err-clause-counted
returns-in-Err-clause-counted g c = kept_count c.supplying.result _ _ (subst KeepsCount (sym c.supplying.ensures) (supply_counts c.in-Err.refusal)) c.in_ok-supplied.ensures.faults

pub returns-in-Err-clause-last : goal.returns-in-Err-clause-last
returns-in-Err-clause-last g c = inr c.in_ok-supplied.ensures.asked
