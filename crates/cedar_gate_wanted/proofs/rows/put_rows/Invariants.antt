-- The rows so far are in.
use Rattle.std.proofs.Common.{◌≡◌, ◌++◌}
use Rattle.std.specs.Vec.Iter.{into_iter_items}
use Rattle.cedar_gate_wanted.specs.Rows.{found_at}
use Rattle.cedar_gate_wanted.specs.Supplying.{rows_of, IsFilled}
use Rattle.cedar_gate_wanted.proofs.rows.put_rows.Given as goal

abbrev pub invariant-loop-uid : goal.invariant-loop-uid
invariant-loop-uid l = record {
  goes : l.fn.more.items ≡ l.yielded ++ into_iter_items l.uid-iterator;
  filled : IsFilled (rows_of l.yielded) (found_at l.initial.rows) (found_at l.rows);
}
