use Rattle.std.proofs.Common.{[], ◌∷◌, ap, subst}
use Rattle.cedar_expr_names.specs.Views.{uid_of}
use Rattle.cedar_store_entities.specs.Refusals.{RefusesAbsence}
use Rattle.cedar_store_entities.specs.Stores.{store_seen}
use Rattle.cedar_store_model.specs.Store.{Store}
use Rattle.cedar_gate_sessions.proofs.Absences.{now_absent, still_absent, still_present, stays}
use Rattle.cedar_gate_sessions.proofs.entities.record_absence.Goals as goal

pub returns-in-Ok-clause-recorded : goal.returns-in-Ok-clause-recorded
returns-in-Ok-clause-recorded c = now_absent (store_seen c.args.store.now) (store_seen c.add_absent.new.self) (uid_of c.args.uid) c.in-Ok.ensures.recorded

pub returns-in-Ok-clause-grown : goal.returns-in-Ok-clause-grown
returns-in-Ok-clause-grown c = (uid_of c.args.uid ∷ [], ap (λ (s : Store). s.absent) c.in-Ok.ensures.recorded)

pub returns-in-Ok-clause-extent : goal.returns-in-Ok-clause-extent
returns-in-Ok-clause-extent c = ap (λ (s : Store). s.extent) c.in-Ok.ensures.recorded

pub returns-in-Err-Absent-clause-recorded : goal.returns-in-Err-Absent-clause-recorded
returns-in-Err-Absent-clause-recorded c =
    let old = store_seen c.args.store.now in
    let new = store_seen c.add_absent.new.self in
    still_absent old new (uid_of c.args.uid) c.in-Err-Absent.ensures.unchanged (subst (RefusesAbsence old (uid_of c.args.uid)) c.in-Err-Absent.field-0-is c.in-Err-Absent.ensures.refused).0

pub returns-in-Err-Absent-clause-grown : goal.returns-in-Err-Absent-clause-grown
returns-in-Err-Absent-clause-grown c = stays (store_seen c.args.store.now) (store_seen c.add_absent.new.self) c.in-Err-Absent.ensures.unchanged

pub returns-in-Err-Absent-clause-extent : goal.returns-in-Err-Absent-clause-extent
returns-in-Err-Absent-clause-extent c = ap (λ (s : Store). s.extent) c.in-Err-Absent.ensures.unchanged

pub returns-in-Err-Present-clause-recorded : goal.returns-in-Err-Present-clause-recorded
returns-in-Err-Present-clause-recorded c =
    let old = store_seen c.args.store.now in
    let new = store_seen c.add_absent.new.self in
    still_present old new (uid_of c.args.uid) c.in-Err-Present.ensures.unchanged (subst (RefusesAbsence old (uid_of c.args.uid)) c.in-Err-Present.field-0-is c.in-Err-Present.ensures.refused).0

pub returns-in-Err-Present-clause-grown : goal.returns-in-Err-Present-clause-grown
returns-in-Err-Present-clause-grown c = stays (store_seen c.args.store.now) (store_seen c.add_absent.new.self) c.in-Err-Present.ensures.unchanged

pub returns-in-Err-Present-clause-extent : goal.returns-in-Err-Present-clause-extent
returns-in-Err-Present-clause-extent c = ap (λ (s : Store). s.extent) c.in-Err-Present.ensures.unchanged
