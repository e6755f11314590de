use Rattle.std.proofs.Common.{◌≡◌, drop, map}
use Rattle.serde_json.specs.View.{items_view}
use Rattle.cedar_evaluator_restricted_exprs.specs.Answers.{AgreesWith}
use Rattle.cedar_evaluator_model.specs.Functions.{Functions}
use Rattle.cedar_gate_model.specs.Reading.{each}
use Rattle.cedar_gate_expressions.proofs.Gathered.{then_rest}
use Rattle.cedar_gate_bundles.proofs.lists.read_each.Given as goal

abbrev pub invariant-loop-item : goal.invariant-loop-item
invariant-loop-item g l =
    (x : Functions) → AgreesWith l.table x →
    then_rest (map g.R.ReaderByTable.seen l.list.items) (each (g.R.ReaderByTable.reading x) (items_view (drop l.item-index l.items)))
    ≡ each (g.R.ReaderByTable.reading x) (items_view l.items)
