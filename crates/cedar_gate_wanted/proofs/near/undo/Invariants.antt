use Rattle.std.proofs.Common.{ℕ, Option, vec_len}
use Rattle.cedar_expr_model.specs.Uid.{Uid}
use Rattle.cedar_gate_wanted.specs.Kept.{IsUndo}
use Rattle.cedar_gate_wanted.specs.Rows.{found_at, writes}
use Rattle.cedar_gate_wanted.proofs.near.undo.Given as goal

abbrev pub invariant-writes : goal.invariant-writes
invariant-writes l = (f : Uid → Option ℕ) → IsUndo (writes l.initial.log.items) f (found_at l.initial.near) → IsUndo (writes l.log.items) f (found_at l.near)

abbrev pub decreases-writes : goal.decreases-writes
decreases-writes l = vec_len l.log
