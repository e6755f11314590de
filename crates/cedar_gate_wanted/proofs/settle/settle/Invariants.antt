use Rattle.std.proofs.Common.{ℕ, ◌+◌, ◌-◌, ◌≤◌, Option, List}
use Rattle.std.specs.Prelude.{IsSome}
use Rattle.std.specs.Ordering.{nat_cmp}
use Rattle.std.specs.BTreeMap.{get, btree_map_len}
use Rattle.cedar_expr_model.specs.Uid.{Uid}
use Rattle.cedar_gate_wanted.specs.Kept.{IsSettling, IsUndo}
use Rattle.cedar_gate_wanted.specs.Rows.{found_at, mentions_in, row_of, writes, IsPending}
use Rattle.cedar_gate_wanted.proofs.settle.settle.Given as goal

abbrev pub invariant-rows : goal.invariant-rows
invariant-rows l = record {
  settling : (r : List Uid) → IsSettling r (mentions_in l.loaded) l.level (found_at l.initial.near) (IsPending (row_of (get nat_cmp l.initial.pending)) (found_at l.initial.near)) → IsSettling r (mentions_in l.loaded) l.level (found_at l.near) (IsPending (row_of (get nat_cmp l.pending)) (found_at l.near));
  floor : (q : ℕ) → IsSome (get nat_cmp l.pending q) → l.floor ≤ q;
  undo : (f : Uid → Option ℕ) → IsUndo (writes l.initial.log.items) f (found_at l.initial.near) → IsUndo (writes l.log.items) f (found_at l.near);
}

abbrev pub decreases-rows : goal.decreases-rows
decreases-rows l = (l.level - l.floor) + btree_map_len l.pending
