use Rattle.std.proofs.Common.{◌≡◌, ◌++◌, map}
use Rattle.std.specs.List.{zip}
use Rattle.std.specs.Map.{keys_of}
use Rattle.std.specs.Rc.{rc_str_bytes}
use Rattle.std.specs.Vec.Iter.{into_iter_items}
use Rattle.cedar_expr_trees.specs.Trees.{named}
use Rattle.cedar_evaluator_restricted_exprs.proofs.records.with_names.Given as goal

abbrev pub invariant-loop-item : goal.invariant-loop-item
invariant-loop-item g l = named l.pairs.items ++ zip (map rc_str_bytes l.names) (into_iter_items l.item-iterator) ≡ zip (map rc_str_bytes (keys_of l.fields.entries)) l.fn.items.items
