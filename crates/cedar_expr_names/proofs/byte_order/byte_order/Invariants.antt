use Rattle.std.proofs.Common.{◌≡◌, ◌≤◌, length, drop, nat_cmp}
use Rattle.std.specs.Cmp.Lexicographic.{slice_cmp}
use Rattle.cedar_expr_names.proofs.byte_order.byte_order.Given as goal

abbrev pub invariant-loop-i : goal.invariant-loop-i
invariant-loop-i l = (l.i ≤ length l.b) × (slice_cmp nat_cmp l.a l.b ≡ slice_cmp nat_cmp (drop l.i l.a) (drop l.i l.b))
