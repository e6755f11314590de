-- The absences so far are recorded.
use Rattle.std.proofs.Common.{◌≡◌}
use Rattle.std.specs.Vec.Iter.{into_iter_items}
use Rattle.cedar_store_entities.specs.Stores.{entities_kept, store_seen}
use Rattle.cedar_gate_wanted.specs.Rows.{uids}
use Rattle.cedar_gate_sessions.specs.Entities.{Grows, is_among}
use Rattle.cedar_gate_sessions.proofs.Absences.{IsRecording}
use Rattle.cedar_gate_sessions.proofs.entities.record_absences.Given as goal

abbrev pub invariant-loop-uid : goal.invariant-loop-uid
invariant-loop-uid l = record {
  recorded : IsRecording (is_among (uids l.fn.missing.items)) (store_seen l.initial.store) (store_seen l.store) (uids (into_iter_items l.uid-iterator));
  kept : entities_kept l.store ≡ entities_kept l.initial.store;
  grown : Grows (store_seen l.initial.store).absent (store_seen l.store).absent;
  extent : (store_seen l.store).extent ≡ (store_seen l.initial.store).extent;
}
