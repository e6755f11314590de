use Rattle.std.proofs.Common.{◌≡◌, None, map}
use Rattle.serde_json.specs.View.{items_view}
use Rattle.cedar_evaluator_restricted_exprs.specs.Answers.{AgreesWith}
use Rattle.cedar_evaluator_model.specs.Functions.{Functions}
use Rattle.cedar_gate_model.specs.Reading.{each}
use Rattle.cedar_gate_bundles.proofs.ByTable.{item_unread}
use Rattle.cedar_gate_bundles.proofs.Unread.{handed_on}
use Rattle.cedar_gate_bundles.proofs.lists.read_each.Goals as goal

pub returns-in_err-read-clause-unreadable : goal.returns-in_err-read-clause-unreadable
returns-in_err-read-clause-unreadable g c =
    handed_on ((x : Functions) → AgreesWith c.args.table.now x → each (g.R.ReaderByTable.reading x) (items_view c.args.items.now) ≡ None) c.in_err-read.field-0.0 c.from_residual-in_err-read.result c.from_residual-in_err-read.ensures.1
    (λ q x a. item_unread (g.R.ReaderByTable.reading x) (map g.R.ReaderByTable.seen c.loop-item.list.items) c.args.items.now c.loop-item.item-index c.item-item.result _ c.loop-item-test.true c.item-item.is (c.loop-item.invariant x a) (c.in_err-read.ensures.unreadable q x a))
