use Rattle.std.proofs.Common.{◌≡◌, length}
use Rattle.std.specs.Slice.Iter.{iter_rest}
use Rattle.cedar_expr_functions.specs.Tables.{table_types_left}
use Rattle.cedar_expr_functions.proofs.extensions.TableTypesIterator.next.Given as goal

abbrev pub invariant-loop-f : goal.invariant-loop-f
invariant-loop-f g l = table_types_left l.initial.self ≡ table_types_left l.self

abbrev pub decreases-loop-f : goal.decreases-loop-f
decreases-loop-f g l = length (iter_rest l.self.functions)
