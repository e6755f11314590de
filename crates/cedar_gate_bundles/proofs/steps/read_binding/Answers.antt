use Rattle.std.proofs.Common.{◌≡◌, None, sym, ap, ◌∙◌}
use Rattle.std.specs.Rc.{rc_str_bytes}
use Rattle.serde_json.specs.Find.{as_str}
use Rattle.serde_json.specs.View.{view}
use Rattle.cedar_evaluator_restricted_exprs.specs.Answers.{AgreesWith}
use Rattle.cedar_evaluator_model.specs.Functions.{Functions}
use Rattle.cedar_gate_model.specs.Reading.{given}
use Rattle.cedar_gate_model.specs.ReadingRequest.{binding_read}
use Rattle.cedar_gate_model.specs.ReadingValue.{value_read}
use Rattle.cedar_gate_bundles.proofs.ByTable.{binding_unread}
use Rattle.cedar_gate_bundles.proofs.Unread.{handed_on}
use Rattle.cedar_gate_bundles.proofs.steps.read_binding.Goals as goal

pub returns-in_err-value-clause-unreadable : goal.returns-in_err-value-clause-unreadable
returns-in_err-value-clause-unreadable g c =
    let d = view c.args.value.now in
    handed_on ((x : Functions) → AgreesWith c.args.table.now x → binding_read x d ≡ None) c.in_err-value.field-0.0 c.from_residual-in_err-value.result c.from_residual-in_err-value.ensures.1
    (λ q x a. binding_unread x d (rc_str_bytes c.in_ok-name.name) (sym c.has_only.ensures ∙ c.if-not-has_only.false) (ap (λ o. given o as_str) c.in_ok-required.ensures.ok ∙ c.in_ok-name.ensures.ok) (ap (λ o. given o (value_read x)) c.in_ok-required-2.ensures.ok ∙ c.in_err-value.ensures.unreadable q x a))
