use Rattle.std.proofs.Common.{rules, ◌≡◌, [], refl, ap, sym, ◌∙◌}
use Rattle.std.proofs.lemmas.List.{nil_from_length}
use Rattle.std.specs.Vec.Iter.{into_iter_items}
use Rattle.cedar_expr_names.specs.Views.{uid_of}
use Rattle.cedar_store_entities.specs.Stores.{store_seen}
use Rattle.cedar_gate_wanted.specs.Rows.{uids}
use Rattle.cedar_gate_sessions.specs.Entities.{is_among}
use Rattle.cedar_gate_sessions.proofs.Absences.{recording_starts, recording_goes, recording_ends, grows_not, grows_on}
use Rattle.cedar_gate_sessions.proofs.entities.record_absences.Goals as goal

pub loop-uid-init : goal.loop-uid-init
loop-uid-init c =
    let all : into_iter_items c.into_iter-uid-iterator.result ≡ c.args.missing.items = search rules in
    record {
      recorded = recording_starts (is_among (uids c.args.missing.items)) (store_seen c.args.store.now) (uids (into_iter_items c.into_iter-uid-iterator.result)) (λ u. ap (λ us. is_among (uids us) u) all);
      kept = refl;
      grown = grows_not (store_seen c.args.store.now).absent;
      extent = refl;
    }

pub loop-uid-preserved : goal.loop-uid-preserved
loop-uid-preserved c =
    let now = store_seen c.loop-uid.store in
    let next = store_seen c.record_absence.new.store in
    record {
      recorded = recording_goes (is_among (uids c.args.missing.items)) (store_seen c.args.store.now) now next (uid_of c.in-Some.uid)
          (uids (into_iter_items c.loop-uid.uid-iterator)) (uids (into_iter_items c.next.new.self)) (ap uids c.in-Some.ensures.steps.0) c.in_ok-record_absence.ensures.recorded c.loop-uid.invariant.recorded;
      kept = c.record_absence.ensures.kept ∙ c.loop-uid.invariant.kept;
      grown = grows_on (store_seen c.args.store.now).absent now.absent next.absent c.loop-uid.invariant.grown c.record_absence.ensures.grown;
      extent = c.record_absence.ensures.extent ∙ c.loop-uid.invariant.extent;
    }

pub returns-clause-recorded : goal.returns-clause-recorded
returns-clause-recorded c =
    recording_ends (is_among (uids c.args.missing.items)) (store_seen c.args.store.now) (store_seen c.loop-uid.store) (uids (into_iter_items c.loop-uid.uid-iterator)) (ap uids (nil_from_length (into_iter_items c.loop-uid.uid-iterator) (sym c.loop-uid.uid-iterator.rest.ok.0 ∙ c.in-None.ensures.steps.0))) c.loop-uid.invariant.recorded
