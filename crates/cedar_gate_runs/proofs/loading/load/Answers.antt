use Rattle.std.proofs.Common.{inr, ◌≡◌, [], ◌∷◌, ◌++◌, map, length, refl, sym, ap, ◌∙◌, subst}
use Rattle.cedar_expr_names.specs.Views.{uid_of}
use Rattle.cedar_gate_model.specs.Runs.{supplied_by, with_asked}
use Rattle.cedar_gate_model.specs.RunsAnswer.{session_of}
use Rattle.cedar_gate_model.specs.Session.{IsWantedList, SupplyRefusal, SupplyFault}
use Rattle.cedar_gate_model.specs.Transcript.{round}
use Rattle.cedar_gate_runs.proofs.Asked.{alone_beyond, memory_beyond, memory_beyond_one, one_more}
use Rattle.cedar_gate_runs.proofs.Faulted.{round_stops}
use Rattle.cedar_gate_runs.proofs.Looped.{not_none, round_done}
use Rattle.cedar_gate_runs.proofs.Pushed.{handed, pushed_in_room, uids_none}
use Rattle.cedar_gate_runs.specs.Running.{StopsSupply}
use Rattle.cedar_gate_runs.specs.declared.stops_with.Stop.TheVariants.{Memory}
use Rattle.cedar_gate_runs.proofs.Losing.{on_err, none_last, wanted_last, kept_count, memory_counts}
use Rattle.cedar_gate_runs.proofs.loading.load.Goals as goal

pub returns-in_err-take_in-clause-stopped : goal.returns-in_err-take_in-clause-stopped
returns-in_err-take_in-clause-stopped g c =
    let items = c.in_ok-wanted.wanted.items in
    let us = map uid_of items in
    let stop = c.in_err-take_in.field-0.0 in
    let some = not_none items _ c.is_empty.result (sym c.as_slice.ensures.len ∙ ap length c.as_slice.ensures.value) c.is_empty.ensures c.if-is_empty.false in
    handed _ stop c.from_residual-in_err-take_in.result c.from_residual-in_err-take_in.ensures.1
    (λ honest d s h i.
    round_stops (session_of d) s us stop (λ k. some (uids_none items k)) (c.in_ok-wanted.ensures.exact d s h)
    (subst (λ xs. StopsSupply (session_of d) s (supplied_by (session_of d) (map uid_of xs)) stop) c.as_slice.ensures.value (c.in_err-take_in.ensures.refused honest d s h i)))

pub returns-clause-did : goal.returns-clause-did
returns-clause-did g c =
    let items = c.in_ok-wanted.wanted.items in
    let us = map uid_of items in
    let some = not_none items _ c.is_empty.result (sym c.as_slice.ensures.len ∙ ap length c.as_slice.ensures.value) c.is_empty.ensures c.if-is_empty.false in
    λ honest d s h i.
    let same : map uid_of c.as_slice.result.now ≡ us = ap (map uid_of) c.as_slice.ensures.value in
    record {
      entries = round us ∷ [];
      state = with_asked s us;
      leads = round_done (session_of d) s us (λ k. some (uids_none items k)) (c.in_ok-wanted.ensures.exact d s h)
          (subst (λ vs. (f : SupplyRefusal) → SupplyFault (session_of d) s (supplied_by (session_of d) vs) f → ⊥) same (c.in_ok-take_in.ensures.taken honest d s h i));
      added = pushed_in_room _ _ _ _ (round us) c.in_ok-reserve.ensures.items c.in_ok-push.ensures.items refl;
      at = subst (λ vs. g.E.SessionCalls.stands d (with_asked s vs) c.take_in.new.session) same (c.in_ok-take_in.ensures.at honest d s h i (subst (IsWantedList (session_of d) s) (sym same) (c.in_ok-wanted.ensures.exact d s h)) (same ∙ c.in_ok-wanted.ensures.wanted));
    }

pub returns-clause-asked : goal.returns-clause-asked
returns-clause-asked g c = λ first h.
    let us = map uid_of c.in_ok-wanted.wanted.items in
    let same : map uid_of c.as_slice.result.now ≡ us = ap (map uid_of) c.as_slice.ensures.value in
    c.in_ok-take_in.ensures.asked ∙ ap (λ z. g.H.Host.asked c.args.host.now ++ z ∷ []) same
    ∙ one_more first _ _ _ us (pushed_in_room _ _ _ _ (round us) c.in_ok-reserve.ensures.items c.in_ok-push.ensures.items refl) h

pub returns-in_err-wanted-clause-beyond : goal.returns-in_err-wanted-clause-beyond
returns-in_err-wanted-clause-beyond g c = handed _ Memory c.from_residual.result c.from_residual.ensures.1 (alone_beyond _ Memory memory_beyond)

pub returns-in_err-reserve-clause-beyond : goal.returns-in_err-reserve-clause-beyond
returns-in_err-reserve-clause-beyond g c = handed _ Memory c.from_residual-in_err-reserve.result c.from_residual-in_err-reserve.ensures.1 (alone_beyond _ Memory memory_beyond)

pub returns-in_err-take_in-clause-beyond : goal.returns-in_err-take_in-clause-beyond
returns-in_err-take_in-clause-beyond g c = handed _ c.in_err-take_in.field-0.0 c.from_residual-in_err-take_in.result c.from_residual-in_err-take_in.ensures.1 c.in_err-take_in.ensures.beyond

pub returns-in_err-push-clause-beyond : goal.returns-in_err-push-clause-beyond
returns-in_err-push-clause-beyond g c = handed _ Memory c.from_residual-in_err-push.result c.from_residual-in_err-push.ensures.1 (map uid_of c.as_slice.result.now ∷ [], memory_beyond_one (map uid_of c.as_slice.result.now), c.in_ok-take_in.ensures.asked)

pub returns-in_err-wanted-clause-counted : goal.returns-in_err-wanted-clause-counted
returns-in_err-wanted-clause-counted g c = handed _ Memory c.from_residual.result c.from_residual.ensures.1 refl

pub returns-in_err-reserve-clause-counted : goal.returns-in_err-reserve-clause-counted
returns-in_err-reserve-clause-counted g c = handed _ Memory c.from_residual-in_err-reserve.result c.from_residual-in_err-reserve.ensures.1 refl

pub returns-in_err-take_in-clause-counted : goal.returns-in_err-take_in-clause-counted
returns-in_err-take_in-clause-counted g c = handed _ c.in_err-take_in.field-0.0 c.from_residual-in_err-take_in.result c.from_residual-in_err-take_in.ensures.1 c.in_err-take_in.ensures.counted

pub returns-in_err-push-clause-counted : goal.returns-in_err-push-clause-counted
returns-in_err-push-clause-counted g c = handed _ Memory c.from_residual-in_err-push.result c.from_residual-in_err-push.ensures.1 (kept_count Memory _ _ memory_counts c.in_ok-take_in.ensures.faults)

pub returns-in_err-wanted-clause-last : goal.returns-in_err-wanted-clause-last
returns-in_err-wanted-clause-last g c = on_err _ c.from_residual.result (λ d s h. none_last (session_of d) s _)

pub returns-in_err-reserve-clause-last : goal.returns-in_err-reserve-clause-last
returns-in_err-reserve-clause-last g c = on_err _ c.from_residual-in_err-reserve.result (λ d s h. none_last (session_of d) s _)

pub returns-in_err-take_in-clause-last : goal.returns-in_err-take_in-clause-last
returns-in_err-take_in-clause-last g c =
    let items = c.in_ok-wanted.wanted.items in
    let us = map uid_of items in
    let some = not_none items _ c.is_empty.result (sym c.as_slice.ensures.len ∙ ap length c.as_slice.ensures.value) c.is_empty.ensures c.if-is_empty.false in
    on_err _ c.from_residual-in_err-take_in.result
    (λ d s h. wanted_last (session_of d) s _ _ us (map uid_of c.as_slice.result.now) (ap (map uid_of) c.as_slice.ensures.value) (λ k. some (uids_none items k)) (c.in_ok-wanted.ensures.exact d s h) c.in_err-take_in.ensures.last)

pub returns-in_err-push-clause-last : goal.returns-in_err-push-clause-last
returns-in_err-push-clause-last g c =
    let items = c.in_ok-wanted.wanted.items in
    let us = map uid_of items in
    let some = not_none items _ c.is_empty.result (sym c.as_slice.ensures.len ∙ ap length c.as_slice.ensures.value) c.is_empty.ensures c.if-is_empty.false in
    on_err _ c.from_residual-in_err-push.result
    (λ d s h. wanted_last (session_of d) s _ _ us (map uid_of c.as_slice.result.now) (ap (map uid_of) c.as_slice.ensures.value) (λ k. some (uids_none items k)) (c.in_ok-wanted.ensures.exact d s h) (inr c.in_ok-take_in.ensures.asked))
