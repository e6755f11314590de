use Rattle.std.proofs.Common.{◌≡◌, Some, None, map, true, codes, rules, ap, ◌∙◌}
use Rattle.serde_json.specs.View.{view}
use Rattle.cedar_store_entities.specs.Stores.{store_seen}
use Rattle.cedar_evaluator_restricted_exprs.specs.Answers.{AgreesWith}
use Rattle.cedar_evaluator_model.specs.Functions.{Functions}
use Rattle.cedar_gate_model.specs.Reading.{given, required}
use Rattle.cedar_gate_model.specs.ReadingBundle.{is_bundle, bundle_read}
use Rattle.cedar_gate_model.specs.ReadingRequest.{request_read, store_read}
use Rattle.cedar_gate_bundles.specs.Bundles.{submission_of}
use Rattle.cedar_evaluator_requests.specs.Views.{request_of}
use Rattle.cedar_gate_runs.specs.Steps.{step_of}
use Rattle.cedar_gate_bundles.proofs.Unread.{handed_on, steps_unread}
use Rattle.cedar_gate_runs.proofs.Proper.{fairly_of}
use Rattle.cedar_gate_bundles.proofs.Written.{asked_well}
use Rattle.cedar_gate_bundles.proofs.ByTable.{store_unread, bundle_is}
use Rattle.cedar_gate_bundles.proofs.bundle.read_bundle.Goals as goal

pub returns-in_err-steps-clause-unreadable : goal.returns-in_err-steps-clause-unreadable
returns-in_err-steps-clause-unreadable g c =
    let d = view c.args.value.now in
    let is : is_bundle d ≡ true = search rules in
    handed_on ((x : Functions) → AgreesWith c.args.table.now x → bundle_read x d ≡ None) c.in_err-steps.field-0.0 c.from_residual-in_err-steps.result c.from_residual-in_err-steps.ensures.1 (λ q x a.
    let asked : required (codes "request") (request_read x) d ≡ Some (request_of c.in_ok-request.request) = ap (λ o. given o (request_read x)) c.in_ok-required.ensures.ok ∙ c.in_ok-request.ensures.ok x a in
    let kept : required (codes "store") (store_read x) d ≡ Some (store_seen c.in_ok-store.store).entities = ap (λ o. given o (store_read x)) c.in_ok-required-2.ensures.ok ∙ c.in_ok-store.ensures.ok x a in
    steps_unread x d (submission_of x c.in_ok-submission.submission) (request_of c.in_ok-request.request) (store_seen c.in_ok-store.store).entities is (c.in_ok-submission.ensures.ok x) asked kept (c.in_err-steps.ensures.unreadable q x a))

pub returns-clause-context_written : goal.returns-clause-context_written
returns-clause-context_written g c = λ x a fair.
    let d = view c.args.value.now in
    let asked : required (codes "request") (request_read x) d ≡ Some (request_of c.in_ok-request.request) = ap (λ o. given o (request_read x)) c.in_ok-required.ensures.ok ∙ c.in_ok-request.ensures.ok x a in
    asked_well x (fairly_of x (a.answered).values fair) d (request_of c.in_ok-request.request) asked

pub returns-in_err-store-clause-unreadable : goal.returns-in_err-store-clause-unreadable
returns-in_err-store-clause-unreadable g c =
    let d = view c.args.value.now in
    let is : is_bundle d ≡ true = search rules in
    handed_on ((x : Functions) → AgreesWith c.args.table.now x → bundle_read x d ≡ None) c.in_err-store.field-0.0 c.from_residual-in_err-store.result c.from_residual-in_err-store.ensures.1 (λ q x a.
    let asked : required (codes "request") (request_read x) d ≡ Some (request_of c.in_ok-request.request) = ap (λ o. given o (request_read x)) c.in_ok-required.ensures.ok ∙ c.in_ok-request.ensures.ok x a in
    store_unread x d (submission_of x c.in_ok-submission.submission) (request_of c.in_ok-request.request) is (c.in_ok-submission.ensures.ok x) asked (ap (λ o. given o (store_read x)) c.in_ok-required-2.ensures.ok ∙ c.in_err-store.ensures.unreadable q x a))

pub returns-clause-ok : goal.returns-clause-ok
returns-clause-ok g c = λ x a.
    let d = view c.args.value.now in
    let is : is_bundle d ≡ true = search rules in
    let asked : required (codes "request") (request_read x) d ≡ Some (request_of c.in_ok-request.request) = ap (λ o. given o (request_read x)) c.in_ok-required.ensures.ok ∙ c.in_ok-request.ensures.ok x a in
    let kept : required (codes "store") (store_read x) d ≡ Some (store_seen c.in_ok-store.store).entities = ap (λ o. given o (store_read x)) c.in_ok-required-2.ensures.ok ∙ c.in_ok-store.ensures.ok x a in
    bundle_is x d (submission_of x c.in_ok-submission.submission) (request_of c.in_ok-request.request) is (c.in_ok-submission.ensures.ok x) asked (store_seen c.in_ok-store.store).entities (map step_of c.in_ok-steps.steps.items) kept (c.in_ok-steps.ensures.ok x a)
