use Rattle.std.proofs.Common.{◌≡◌, ◌++◌, None}
use Rattle.std.specs.Prelude.{IsPermutation}
use Rattle.std.specs.Vec.Iter.{into_iter_items}
use Rattle.std.specs.Map.{keys_of}
use Rattle.std.specs.Ordering.{eq_by_cmp}
use Rattle.cedar_expr_model.specs.Repeats.{repeated}
use Rattle.cedar_expr_functions.specs.Collected.{IsMapOf}
use Rattle.cedar_expr_functions.proofs.util.collect_no_duplicates.Given as goal

abbrev pub invariant-loop-key : goal.invariant-loop-key
invariant-loop-key g l = record { goes : l.fn.pairs.items ≡ l.yielded ++ into_iter_items l.key-iterator; made : IsMapOf g.K.Ord.cmp l.yielded l.map; moved : IsPermutation l.yielded l.map.entries; distinct : repeated (eq_by_cmp g.K.Ord.cmp) (keys_of l.yielded) ≡ None }
