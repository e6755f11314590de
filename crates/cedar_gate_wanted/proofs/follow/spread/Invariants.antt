use Rattle.std.proofs.Common.{ℕ, Option, Contains, take}
use Rattle.cedar_expr_model.specs.Uid.{Uid}
use Rattle.cedar_gate_wanted.specs.Kept.{IsSpread, IsUndo}
use Rattle.cedar_gate_wanted.specs.Rows.{found_at, uids, writes}
use Rattle.cedar_gate_wanted.proofs.follow.spread.Given as goal

abbrev pub invariant-loop-uid : goal.invariant-loop-uid
invariant-loop-uid l = record {
  spread : IsSpread (found_at l.initial.near) (found_at l.near) l.distance (uids (take l.uid-index l.mentioned)) (uids l.next.items);
  next : (x : Uid) → Contains (uids l.initial.next.items) x → Contains (uids l.next.items) x;
  undo : (f : Uid → Option ℕ) → IsUndo (writes l.initial.log.items) f (found_at l.initial.near) → IsUndo (writes l.log.items) f (found_at l.near);
}
