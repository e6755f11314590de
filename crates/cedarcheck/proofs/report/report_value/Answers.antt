use Rattle.std.proofs.Common.{refl}
use Rattle.serde_json.specs.View.{view}
use Rattle.cedar_gate_model.specs.ReadingBundle.{bundle_read}
use Rattle.cedarcheck.proofs.Explained.{bundle_explains, unread_explains}
use Rattle.cedarcheck.proofs.report.report_value.Goals as goal

pub returns-in-Ok : goal.returns-in-Ok
returns-in-Ok g c = bundle_explains c.args.table.now c.report_submission.result (λ x. bundle_read x (view c.args.root.now)) c.in-Ok.bundle c.in-Ok.ensures.ok c.report_submission.ensures

pub returns-in-Err-Unreadable : goal.returns-in-Err-Unreadable
returns-in-Err-Unreadable g c = unread_explains c.args.table.now c.report_unread.result (λ x. bundle_read x (view c.args.root.now)) (c.in-Err-Unreadable.ensures.unreadable c.in-Err-Unreadable.field-0-is) c.report_unread.ensures
