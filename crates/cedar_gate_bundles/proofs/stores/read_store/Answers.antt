use Rattle.serde_json.specs.View.{view}
use Rattle.cedar_expr_names.specs.Views.{uid_of}
use Rattle.cedar_gate_bundles.proofs.Kept.{store_written}
use Rattle.cedar_gate_bundles.proofs.Unread.{handed_on, repeats_unread}
use Rattle.std.proofs.Common.{◌≡◌, None, map, ap, ◌∙◌}
use Rattle.cedar_evaluator_restricted_exprs.specs.Answers.{AgreesWith}
use Rattle.cedar_store_model.specs.Store.{are_distinct}
use Rattle.cedar_store_entities.specs.Stores.{store_seen}
use Rattle.cedar_store_entities.specs.Views.{entity_pair}
use Rattle.cedar_evaluator_model.specs.Functions.{Functions}
use Rattle.cedar_gate_model.specs.Reading.{given}
use Rattle.cedar_gate_model.specs.ReadingForms.{if_passing}
use Rattle.cedar_gate_model.specs.ReadingRequest.{store_read}
use Rattle.cedar_gate_bundles.proofs.Parted.{store_kept}
use Rattle.cedar_gate_bundles.proofs.stores.read_store.Goals as goal

pub returns-clause-unreadable : goal.returns-clause-unreadable
returns-clause-unreadable g c = λ q x a.
    let refused = rw c.in-Err-Duplicate.field-0-is at c.in-Err-Duplicate.ensures.refused in
    repeats_unread x (view c.args.value.now) c.in_ok-entities.entities.items (uid_of c.in-Err-Duplicate.field-0-0) (c.in_ok-entities.ensures.ok x a) refused

pub returns-in-Ok-clause-store_written : goal.returns-in-Ok-clause-store_written
returns-in-Ok-clause-store_written g c = λ x a fair. store_written x.table c.in_ok-entities.entities.items c.in-Ok.store c.in-Ok.ensures.kept (c.in_ok-entities.ensures.written x a fair)

pub returns-in_err-entities-clause-unreadable : goal.returns-in_err-entities-clause-unreadable
returns-in_err-entities-clause-unreadable g c =
    let d = view c.args.value.now in
    handed_on ((x : Functions) → AgreesWith c.args.table.now x → store_read x d ≡ None) c.in_err-entities.field-0.0 c.from_residual.result c.from_residual.ensures.1 (λ q x a. ap (λ o. given o (if_passing are_distinct)) (c.in_err-entities.ensures.unreadable q x a))

pub returns-in-Ok-clause-ok : goal.returns-in-Ok-clause-ok
returns-in-Ok-clause-ok g c = λ x a. ap (λ o. given o (if_passing are_distinct)) (c.in_ok-entities.ensures.ok x a) ∙ store_kept (map entity_pair c.in_ok-entities.entities.items) (store_seen c.in-Ok.store) c.in-Ok.ensures.made
