use Rattle.std.proofs.Common.{◌≡◌, drop, map}
use Rattle.serde_json.specs.View.{items_view}
use Rattle.cedar_gate_model.specs.Reading.{each}
use Rattle.cedar_gate_expressions.proofs.Gathered.{then_rest}
use Rattle.cedar_gate_expressions.proofs.lists.read_each.Given as goal

abbrev pub invariant-loop-item : goal.invariant-loop-item
invariant-loop-item g l =
    then_rest (map g.R.Reader.seen l.list.items) (each (g.R.Reader.reading l.reader) (items_view (drop l.item-index l.items)))
    ≡ each (g.R.Reader.reading l.reader) (items_view l.items)
