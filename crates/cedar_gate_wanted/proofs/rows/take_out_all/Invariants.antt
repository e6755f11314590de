-- The rows so far are out, and the others are as they were.
use Rattle.std.proofs.Common.{take}
use Rattle.cedar_expr_model.specs.Uid.{Uid}
use Rattle.cedar_gate_wanted.specs.Rows.{found_at, uids}
use Rattle.cedar_gate_wanted.specs.Supplying.{IsOut}
use Rattle.cedar_gate_wanted.proofs.rows.take_out_all.Given as goal

abbrev pub invariant-loop-key : goal.invariant-loop-key
invariant-loop-key g l = (u : Uid) → IsOut (uids (take l.key-index l.keys)) (found_at l.initial.rows) (found_at l.rows) u
