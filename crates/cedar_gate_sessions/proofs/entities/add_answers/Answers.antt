use Rattle.std.proofs.Common.{sym, subst}
use Rattle.std.proofs.lemmas.Result.{on_ok_weaker}
use Rattle.cedar_store_entities.specs.Stores.{entities_kept}
use Rattle.cedar_gate_wanted.specs.Rows.{uids}
use Rattle.cedar_gate_sessions.specs.Entities.{Grows}
use Rattle.cedar_gate_sessions.proofs.Absences.{both_added, both_grown, new_behind}
use Rattle.cedar_gate_sessions.proofs.entities.add_answers.Goals as goal

pub returns-clause-added : goal.returns-clause-added
returns-clause-added c =
    let more = c.in_ok-add_new.ensures in
    on_ok_weaker c.record_absences.result (both_added c.args.entities.items c.args.store.now c.add_new.new.self c.record_absences.new.store more.extent more.absent c.record_absences.ensures.kept
    (uids c.args.missing.items) more.added) c.record_absences.ensures.recorded

pub returns-clause-grown : goal.returns-clause-grown
returns-clause-grown c =
    let es = c.args.entities.items in
    let more = c.in_ok-add_new.ensures in
    let old = entities_kept c.args.store.now in
    both_grown es c.args.store.now c.add_new.new.self c.record_absences.new.store more.extent more.absent c.record_absences.ensures.kept
    (subst (Grows old) (sym more.added) (new_behind old es)) c.record_absences.ensures.grown c.record_absences.ensures.extent
