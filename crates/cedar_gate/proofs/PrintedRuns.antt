-- The lines of transcripts and of stops are those of the runs.
use Rattle.std.proofs.Common.{◌≡◌, ◌++◌, ◌∙◌, ℕ, List, [], Some, refl, sym, ap}
use Rattle.std.specs.List.{flat_map}
use Rattle.std.specs.Prelude.{codes, option_map, Result, Ok, Err, IfOk}
use Rattle.cedar_expr_model.specs.Name.{Text}
use Rattle.cedar_evaluator_model.proofs.Represented.{entity_represented}
use Rattle.cedar_evaluator_model.specs.Laws.{as_concrete}
use Rattle.cedar_evaluator_requests.specs.Views.{answer_of}
use Rattle.cedar_evaluator_requests.specs.declared.response.Response.{Response}
use Rattle.cedar_store_entities.specs.Stores.{store_made}
use Rattle.cedar_store_entities.specs.Views.{bare_entity}
use Rattle.cedar_store_entities.specs.declared.entities.Entities.{Entities}
use Rattle.cedar_gate_runs.specs.Hosts.{Answers, stored}
use Rattle.cedar_gate_runs.specs.Stores.{store_of}
use Rattle.cedar_gate_runs.specs.declared.store_host.StoreHost.{StoreHost}
use Rattle.cedar_gate_model.specs.Acceptance.{warnings_of}
use Rattle.cedar_gate_model.specs.Lines.{Status, warning_lines, entry_lines, end_lines, end_status, numbered, is_answered, is_stopped}
use Rattle.cedar_gate_model.specs.Runs.{End, answered, opening_refused, supply_refused, binding_refused, answer_refused}
use Rattle.cedar_gate_model.specs.RunsAnswer.{Course, IsRun}
use Rattle.cedar_gate_model.specs.Session.{at_start}
use Rattle.cedar_gate_model.specs.Transcript.{Entry}
use Rattle.cedar_gate_runs.specs.Courses.{IsHost}
use Rattle.cedar_gate_runs.specs.Ends.{IsAnswered, IsStopped}
use Rattle.cedar_gate.proofs.Told.{answers_are_told}
use Rattle.cedar_gate.specs.Printed.{IsStore, AddsRun, PrintsAccepted}
use Rattle.cedar_gate_runs.specs.Printing.{concrete_lines, named_line}
use Rattle.cedar_gate_runs.specs.Stops.{run_fault_transcript, refusal_line}
use Rattle.cedar_gate_runs.specs.Transcripts.{entries_of}
use Rattle.cedar_gate_runs.specs.declared.transcript.Transcript.{Transcript}
use Rattle.cedar_gate_runs.specs.declared.stops.RunFault.{RunFault}
use Rattle.cedar_gate_runs.specs.declared.stops.RunFault.TheVariants.{Memory, Host, Opening, Supplying, Binding, Answering}

some_is : {A : Type 0} (x y : A) → Some x ≡ Some y → x ≡ y
some_is x y e = cc

pub answer_adds : (c : Course) (t : Transcript) (r : Response) (before after : Text) → t.answer ≡ Some r → after ≡ before ++ (entry_lines 1 (entries_of t.entries.items) ++ concrete_lines (answer_of r)) → IsAnswered c t → AddsRun c is_answered before after
answer_adds c t r before after is added (a, told, run) =
    let same : answer_of r ≡ as_concrete a = some_is _ _ (ap (option_map answer_of) (sym is) ∙ told) in
    record {
      text = entry_lines 1 (entries_of t.entries.items) ++ end_lines (answered a);
      prints = (entries_of t.entries.items, answered a, run, refl, refl);
      added = added ∙ ap (λ l. before ++ (entry_lines 1 (entries_of t.entries.items) ++ l)) (ap concrete_lines same ∙ answers_are_told a);
    }

module _ (c : Course) (before after : Text) where
  refused : (es : List Entry) (end : End) (word : Text) (n m : ℕ) → IsRun c es end → n ≡ m → end_lines end ≡ numbered word m → is_stopped ≡ end_status end → Some after ≡ Some (before ++ (entry_lines 1 es ++ numbered word n)) → AddsRun c is_stopped before after
  refused es end word n m run e lines status added = record {
    text = entry_lines 1 es ++ end_lines end;
    prints = (es, end, run, status, refl);
    added = some_is _ _ added ∙ ap (λ l. before ++ (entry_lines 1 es ++ l)) (ap (numbered word) e ∙ sym lines);
  }

  pub stop_adds : (f : RunFault) → Some after ≡ option_map (λ (end : Text). before ++ (entry_lines 1 (entries_of (run_fault_transcript f).entries.items) ++ end)) (refusal_line f) → IsStopped c f → AddsRun c is_stopped before after
  stop_adds (Memory t) added h = cc
  stop_adds (Host t) added h = cc
  stop_adds (Opening n t) added (f, e, run) = refused (entries_of t.entries.items) (opening_refused f) (codes "open") n _ run e refl refl added
  stop_adds (Supplying n t) added (f, e, run) = refused (entries_of t.entries.items) (supply_refused f) (codes "supply") n _ run e refl refl added
  stop_adds (Binding n t) added (f, e, run) = refused (entries_of t.entries.items) (binding_refused f) (codes "bind") n _ run e refl refl added
  stop_adds (Answering n t) added (f, e, run) = refused (entries_of t.entries.items) (answer_refused f) (codes "answer") n _ run e refl refl added

-- the host of the store of a course
pub store_hosts : (c : Course) (es : Entities) (h : StoreHost) → store_of h ≡ stored (store_made es) → IsStore c es → IsHost store_of c at_start c.steps h
store_hosts c es h same s = record {
  store = λ u. s.each u ∙ ap (λ (a : Answers). option_map bare_entity (a u)) (sym same);
  represented = λ t us u e m w j k. entity_represented c.functions.table e (s.written u e (ap (λ (a : Answers). a u) (sym same) ∙ k));
}

-- the lines of the warnings before those of a run
pub accepted_prints : (c : Course) (status : Status) (old mid new : Text) (ids : List Text) → old ≡ [] → mid ≡ old ++ flat_map (λ id. named_line (codes "impossible") id) ids → ids ≡ warnings_of c.submission → AddsRun c status mid new → PrintsAccepted c status new
accepted_prints c status old mid new ids nothing warned same a =
    let lines : flat_map (λ id. named_line (codes "impossible") id) ids ≡ warning_lines c.submission = ap (flat_map (λ id. named_line (codes "impossible") id)) same in
    record {
      run = a.text;
      prints = a.prints;
      all = a.added ∙ ap (λ t. t ++ a.text) (warned ∙ ap (λ t. t ++ flat_map (λ id. named_line (codes "impossible") id) ids) nothing ∙ lines);
    }
