use Rattle.std.proofs.Common.{◌≡◌, length}
use Rattle.std.specs.Slice.Iter.{iter_rest}
use Rattle.cedar_expr_functions.specs.Extended.{types_left}
use Rattle.cedar_expr_functions.proofs.extension.ExtTypesIterator.next.Given as goal

abbrev pub invariant-loop-f : goal.invariant-loop-f
invariant-loop-f g l = types_left l.initial.self ≡ types_left l.self

abbrev pub decreases-loop-f : goal.decreases-loop-f
decreases-loop-f g l = length (iter_rest l.self.functions)
