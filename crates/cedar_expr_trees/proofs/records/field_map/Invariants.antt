use Rattle.std.proofs.Common.{◌≡◌, ◌++◌, None}
use Rattle.std.specs.Vec.Iter.{into_iter_items}
use Rattle.cedar_expr_model.specs.Records.{in_order}
use Rattle.cedar_expr_model.specs.Repeats.{repeated_name}
use Rattle.cedar_expr_trees.specs.Trees.{named}
use Rattle.cedar_expr_trees.proofs.records.field_map.Given as goal

abbrev pub invariant-loop-name : goal.invariant-loop-name
invariant-loop-name g l = record { goes : l.fn.pairs.items ≡ l.yielded ++ into_iter_items l.name-iterator; made : named l.fields.entries ≡ in_order (named l.yielded); distinct : repeated_name (named l.yielded) ≡ None }
