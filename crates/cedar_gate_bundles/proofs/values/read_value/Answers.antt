use Rattle.std.proofs.Common.{◌≡◌, None, true, rules, ap, ◌∙◌}
use Rattle.serde_json.specs.View.{view}
use Rattle.cedar_evaluator_restricted_exprs.specs.Answers.{AgreesWith}
use Rattle.cedar_expr_model.specs.Restricted.{is_restricted}
use Rattle.cedar_expr_trees.specs.Trees.{tree_of}
use Rattle.cedar_evaluator_model.specs.Functions.{Functions, left_of_restricted}
use Rattle.cedar_gate_model.specs.ReadingValue.{value_read, if_value}
use Rattle.cedar_evaluator_errors.specs.Outcomes.{left_seen}
use Rattle.cedar_gate_bundles.proofs.ByTable.{value_of_tree}
use Rattle.cedar_gate_bundles.proofs.Parted.{stopped_value}
use Rattle.cedar_gate_bundles.proofs.Unread.{handed_on}
use Rattle.cedar_gate_bundles.proofs.values.read_value.Goals as goal

pub returns-in_err-v-clause-unreadable : goal.returns-in_err-v-clause-unreadable
returns-in_err-v-clause-unreadable g c =
    let d = view c.args.value.now in
    let t = tree_of {T = Unit} c.in_ok-e.e in
    let r : is_restricted t ≡ true = search rules in
    handed_on ((x : Functions) → AgreesWith c.args.table.now x → value_read x d ≡ None) c.in_err-v.field-0.0 c.from_residual-in_err-v.result c.from_residual-in_err-v.ensures.1
    (λ q x a. value_of_tree x d t c.in_ok-e.ensures.ok r ∙ stopped_value (left_of_restricted x t) (c.in_err-v.ensures.stopped q x a))

pub returns-in-Value-clause-ok : goal.returns-in-Value-clause-ok
returns-in-Value-clause-ok g c = λ x a.
    let d = view c.args.value.now in
    let t = tree_of {T = Unit} c.in_ok-e.e in
    let r : is_restricted t ≡ true = search rules in
    value_of_tree x d t c.in_ok-e.ensures.ok r ∙ ap if_value (c.in_ok-v.ensures.left x a) ∙ ap (λ p. if_value (left_seen p)) c.in-Value.is

pub returns-clause-unreadable : goal.returns-clause-unreadable
returns-clause-unreadable g c = λ q x a.
    let d = view c.args.value.now in
    let t = tree_of {T = Unit} c.in_ok-e.e in
    let r : is_restricted t ≡ true = search rules in
    value_of_tree x d t c.in_ok-e.ensures.ok r ∙ ap if_value (c.in_ok-v.ensures.left x a) ∙ ap (λ p. if_value (left_seen p)) c.in-Residual.is
