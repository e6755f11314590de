use Rattle.std.proofs.Common.{◌≡◌, List, ◌++◌}
use Rattle.std.specs.Rc.{rc_str_bytes}
use Rattle.serde_json.specs.View.{members_view}
use Rattle.serde_json.proofs.Views.{Entry}
use Rattle.cedar_evaluator_restricted_exprs.specs.Answers.{AgreesWith}
use Rattle.cedar_evaluator_model.specs.Functions.{Functions}
use Rattle.cedar_gate_model.specs.Reading.{each_member}
use Rattle.cedar_gate_expressions.specs.Maps.{under_text, texts_seen}
use Rattle.cedar_gate_expressions.proofs.Gathered.{then_rest}
use Rattle.cedar_gate_expressions.proofs.Sorted.{SameNames}
use Rattle.cedar_gate_bundles.proofs.lists.read_each_pair.Given as goal

abbrev pub invariant-loop-key : goal.invariant-loop-key
invariant-loop-key g l =
    (done : List Entry) × (l.members.entries ≡ done ++ l.key-iterator) × SameNames rc_str_bytes l.made.items done
    × ((x : Functions) → AgreesWith l.table x → then_rest (texts_seen g.R.ReaderByTable.seen l.made.items) (each_member (under_text (g.R.ReaderByTable.reading x)) (members_view l.key-iterator)) ≡ each_member (under_text (g.R.ReaderByTable.reading x)) (members_view l.members.entries))
