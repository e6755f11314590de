use Rattle.std.proofs.Common.{refl, ap, ◌∙◌}
use Rattle.serde_json.specs.View.{view}
use Rattle.cedar_gate_bundles.proofs.Parted.{of_input}
use Rattle.cedar_gate_model.specs.Reading.{given}
use Rattle.cedar_gate_model.specs.ReadingBundle.{input_read, bundle_read}
use Rattle.cedarcheck.proofs.Explained.{same_explains, unread_explains}
use Rattle.cedarcheck.proofs.report.report_input.Goals as goal

pub returns-in-Ok : goal.returns-in-Ok
returns-in-Ok g c =
    same_explains c.args.table.now c.report_value.result (λ x. input_read x c.args.input.now) (λ x. bundle_read x (view c.in-Ok.root))
    (λ x a. of_input x c.args.input.now ∙ ap (λ o. given o (bundle_read x)) c.in-Ok.ensures.ok) c.report_value.ensures

pub returns-in-Err-Unreadable : goal.returns-in-Err-Unreadable
returns-in-Err-Unreadable g c =
    unread_explains c.args.table.now c.report_no_json.result (λ x. input_read x c.args.input.now)
    (λ x a. of_input x c.args.input.now ∙ ap (λ o. given o (bundle_read x)) (c.in-Err-Unreadable.ensures.unreadable c.in-Err-Unreadable.field-0-is)) c.report_no_json.ensures
