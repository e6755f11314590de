use Rattle.std.proofs.Common.{◌≡◌, Some, None, map}
use Rattle.serde_json.specs.View.{view}
use Rattle.cedar_evaluator_restricted_exprs.specs.Answers.{AgreesWith}
use Rattle.cedar_store_entities.specs.Views.{entity_pair}
use Rattle.cedar_evaluator_model.specs.Functions.{Functions}
use Rattle.cedar_gate_model.specs.Reading.{list_of}
use Rattle.cedar_gate_model.specs.ReadingRequest.{entity_read}
use Rattle.cedar_gate_model.specs.RunsAnswer.{AnswerFairly}
use Rattle.cedar_gate_expressions.specs.declared.fault.ReadFault.TheVariants.{Unreadable}
use Rattle.cedar_gate_bundles.specs.Written.{entity_read_made, entity_pair_made, AreWritten}
use Rattle.cedar_gate_bundles.proofs.Kept.{if_ok, if_err, listed, unlisted}
use Rattle.cedar_gate_runs.proofs.Proper.{fairly_of}
use Rattle.cedar_gate_bundles.proofs.Written.{list_well}
use Rattle.cedar_gate_bundles.proofs.stores.read_entities.Goals as goal

pub returns-clause-ok : goal.returns-clause-ok
returns-clause-ok g c =
    let d = view c.args.value.now in
    if_ok (λ es. (x : Functions) → AgreesWith c.args.table.now x → list_of (entity_read_made x) d ≡ Some (map entity_pair_made es.items))
    (λ es. (x : Functions) → AgreesWith c.args.table.now x → list_of (entity_read x) d ≡ Some (map entity_pair es.items))
    c.read_list.result (λ es h x a. listed x d es.items (h x a)) c.read_list.ensures.ok

pub returns-clause-unreadable : goal.returns-clause-unreadable
returns-clause-unreadable g c =
    let d = view c.args.value.now in
    if_err (λ f. f ≡ Unreadable → (x : Functions) → AgreesWith c.args.table.now x → list_of (entity_read_made x) d ≡ None)
    (λ f. f ≡ Unreadable → (x : Functions) → AgreesWith c.args.table.now x → list_of (entity_read x) d ≡ None)
    c.read_list.result (λ f h q x a. unlisted x d (h q x a)) c.read_list.ensures.unreadable

pub returns-clause-written : goal.returns-clause-written
returns-clause-written g c =
    let d = view c.args.value.now in
    if_ok (λ es. (x : Functions) → AgreesWith c.args.table.now x → list_of (entity_read_made x) d ≡ Some (map entity_pair_made es.items))
    (λ es. (x : Functions) → AgreesWith c.args.table.now x → AnswerFairly x → AreWritten x.table (map entity_pair_made es.items))
    c.read_list.result (λ es h x a fair. list_well x (fairly_of x (a.answered).values fair) d (map entity_pair_made es.items) (h x a)) c.read_list.ensures.ok
