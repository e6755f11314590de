use Rattle.std.proofs.Common.{ℕ, Option, Contains, take}
use Rattle.cedar_expr_model.specs.Uid.{Uid}
use Rattle.cedar_gate_wanted.specs.Kept.{IsFollowed, IsUndo}
use Rattle.cedar_gate_wanted.specs.Rows.{found_at, mentions_in, uids, writes}
use Rattle.cedar_gate_wanted.proofs.follow.follow.Given as goal

abbrev pub invariant-loop-key : goal.invariant-loop-key
invariant-loop-key l = record {
  followed : IsFollowed (mentions_in l.loaded) (found_at l.initial.near) (found_at l.near) l.distance (uids (take l.key-index l.keys)) (uids l.next.items);
  next : (x : Uid) → Contains (uids l.initial.next.items) x → Contains (uids l.next.items) x;
  undo : (f : Uid → Option ℕ) → IsUndo (writes l.initial.log.items) f (found_at l.initial.near) → IsUndo (writes l.log.items) f (found_at l.near);
}
