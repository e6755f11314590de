use Rattle.std.proofs.Common.{◌≡◌, ℕ, Some, Contains, take}
use Rattle.std.specs.Ordering.{nat_cmp}
use Rattle.std.specs.BTreeMap.{get}
use Rattle.cedar_expr_model.specs.Uid.{Uid}
use Rattle.cedar_gate_wanted.specs.Rows.{row_of, uids, found_at}
use Rattle.cedar_gate_wanted.proofs.distance_rows.rows_at.Given as goal

abbrev pub invariant-loop-key : goal.invariant-loop-key
invariant-loop-key l = (x : Uid) (d : ℕ) → Contains (uids (take l.key-index l.keys)) x → found_at l.near x ≡ Some d → Contains (row_of (get nat_cmp l.pending) d) x
