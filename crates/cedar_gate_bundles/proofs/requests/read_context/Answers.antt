use Rattle.std.proofs.Common.{◌≡◌, None, ap, ◌∙◌}
use Rattle.serde_json.specs.Data.{object}
use Rattle.serde_json.specs.View.{view, members_view}
use Rattle.serde_json.proofs.Views.{view-Object}
use Rattle.cedar_evaluator_restricted_exprs.specs.Answers.{AgreesWith}
use Rattle.cedar_evaluator_model.specs.Functions.{Functions}
use Rattle.cedar_gate_model.specs.ReadingValue.{context_read}
use Rattle.cedar_gate_bundles.proofs.Parted.{context_of_object}
use Rattle.cedar_gate_bundles.proofs.Unread.{handed_on}
use Rattle.cedar_gate_bundles.proofs.requests.read_context.Goals as goal

pub returns-in_err-context_in-in-Object-clause-unreadable : goal.returns-in_err-context_in-in-Object-clause-unreadable
returns-in_err-context_in-in-Object-clause-unreadable g c =
    let ms = members_view c.in-Object.members.entries in
    let is : view c.args.value.now ≡ object ms = ap view c.in-Object.is ∙ view-Object c.in-Object.members in
    handed_on ((x : Functions) → AgreesWith c.args.table.now x → context_read x (view c.args.value.now) ≡ None) c.in_err-context_in-in-Object.field-0.0 c.from_residual.result c.from_residual.ensures.1
    (λ q x a. ap (context_read x) is ∙ context_of_object x ms ∙ c.in_err-context_in-in-Object.ensures.unreadable q x a)

pub returns-in_ok-context_in-in-Object-clause-ok : goal.returns-in_ok-context_in-in-Object-clause-ok
returns-in_ok-context_in-in-Object-clause-ok g c = λ x a.
    let ms = members_view c.in-Object.members.entries in
    let is : view c.args.value.now ≡ object ms = ap view c.in-Object.is ∙ view-Object c.in-Object.members in
    ap (context_read x) is ∙ context_of_object x ms ∙ c.in_ok-context_in-in-Object.ensures.ok x a
