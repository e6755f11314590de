-- What was read and accepted is a course at the gate, and what is printed for it may be printed.
use Rattle.std.proofs.Common.{◌≡◌, ◌∙◌, ℕ, List, Option, Some, None, option_map, map, Result, Ok, Err, IfOk, string_bytes, refl, sym, ap, subst}
use Rattle.std.specs.Map.{lookup}
use Rattle.std.specs.declared.alloc.AllocError.{AllocError}
use Rattle.cedar_evaluator_model.proofs.Represented.{context_represented, represented_of_well}
use Rattle.cedar_evaluator_model.specs.OfLaws.WellMade.{IsContextMadeWell}
use Rattle.cedar_evaluator_requests.specs.Views.{request_of}
use Rattle.cedar_evaluator_restricted_exprs.specs.Answers.{AgreesWith}
use Rattle.cedar_expr_functions.specs.Tables.{table_of, functions_of, ordered_of}
use Rattle.cedar_expr_functions.specs.declared.extensions.Extensions.{Extensions}
use Rattle.cedar_expr_model.specs.Table.{Table}
use Rattle.cedar_expr_model.specs.Uid.{uid_eq}
use Rattle.cedar_schema_model.specs.Declarations.{Declarations}
use Rattle.cedar_store_entities.specs.Stores.{entities_kept, store_made}
use Rattle.cedar_store_entities.specs.Views.{Kept, bare_entity}
use Rattle.cedar_store_parts.specs.Parts.{id_text}
use Rattle.cedar_store_policies.specs.declared.policy.Policy.{Policy}
use Rattle.cedar_gate_accepted.specs.Handed.{IsHandedIn}
use Rattle.cedar_gate_bundles.specs.Bundles.{submission_of, bundle_of}
use Rattle.cedar_gate_bundles.specs.Written.{IsStoreWritten}
use Rattle.cedar_gate_bundles.specs.declared.bundle.Bundle.{Bundle}
use Rattle.cedar_gate_bundles.specs.declared.bundle.Submission as code
use Rattle.cedar_gate_fragments.specs.Written.{declared_by}
use Rattle.cedar_gate_model.proofs.Runs.Read.{bundles_are_proper}
use Rattle.cedar_gate_model.specs.Acceptance.{Submission, IsAccepted, warnings_of}
use Rattle.cedar_evaluator_model.specs.Functions.{Functions}
use Rattle.cedar_gate_model.specs.Lines.{Prints}
use Rattle.cedar_gate_model.specs.ReadingBundle.{input_read}
use Rattle.cedar_gate_model.specs.RunsAnswer.{Course, MakeFairly, course_of}
use Rattle.cedar_gate_rules.specs.Limit.{levels_of}
use Rattle.cedar_gate_rules.specs.Policies.{policies_of}
use Rattle.cedar_gate_rules.specs.declared.nest_limit.NestLimit.{NestLimit}
use Rattle.cedar_gate_runs.proofs.Stored.{bare_kept, found_bare}
use Rattle.cedar_gate_runs.specs.Statuses.{status_of}
use Rattle.cedar_gate.proofs.Printed.{input_bundle, run_prints}
use Rattle.cedar_gate.specs.Courses.{IsFair}
use Rattle.cedar_gate.specs.Gates.{IsOf, declared_in, policies_held, table_held, level_held, limit_held, warned_of}
use Rattle.cedar_gate.specs.Printed.{IsStore, IsServedBy, IsReadWell, PrintsAccepted}
use Rattle.cedar_gate.specs.declared.gate.Gate.{Gate}
use Rattle.cedar_gate.specs.declared.printing.Printed.{Printed}

-- the store of a bundle, with the values as they are made
bare_of : (k : Option Kept) → option_map bare_kept k ≡ option_map bare_entity (option_map (λ k. k.0) k)
bare_of None = refl
bare_of (Some k) = refl

store_is : (x : Functions) (b : Bundle) → IsStoreWritten x.table b.store → IsStore (course_of x (bundle_of x b)) b.store
store_is x b h = record {
  each = λ u. found_bare (entities_kept b.store) u ∙ bare_of (lookup (uid_eq u) (store_made b.store));
  written = λ u e k. h.written u e k;
}

-- what was read is as it is written
pub read_well : (x : Functions) (bytes : List ℕ) (b : Bundle) → input_read x bytes ≡ Some (bundle_of x b) → IsContextMadeWell x.table (request_of b.request).context → IsStoreWritten x.table b.store
    → MakeFairly x → IsReadWell x b
read_well x bytes b e context store fair =
    let p = input_bundle x bytes (bundle_of x b) e in
    record { proper = λ accepted. bundles_are_proper x p.0 (bundle_of x b) fair p.1 accepted; context = context; store = store }

-- what is handed in of a bundle, where the table agrees with the functions
pub handed_in : {B : _} {F : _} {γ : _} (x : Functions) (s : code.Submission) (t : Extensions B F γ) (d : Declarations) → AgreesWith t x → d ≡ declared_by s.fragments.items
    → IsHandedIn d (policies_of s.policies.items) (functions_of t) (ordered_of t) (levels_of s.limit) (submission_of x s)
handed_in x s t d a ed = record { declarations = sym ed; policies = refl; functions = ap (λ (y : Table). y.functions) a.table; ordered = ap (λ (y : Table). y.ordered) a.table; limit = refl }

-- the gate holds what it was handed
pub held_of : {B : _} {F : _} {γ : _} (g : Gate B F γ) (s : Submission) (d : Declarations) (ps : List Policy) (t : Extensions B F γ) (limit : NestLimit) (level : ℕ)
    → declared_in g ≡ d → policies_held g ≡ ps → table_held g ≡ t → limit_held g ≡ limit → level_held g ≡ level
    → IsHandedIn d (policies_of ps) (functions_of t) (ordered_of t) (levels_of limit) s → s.level ≡ level → IsOf g s
held_of {B} {F} {γ} g s d ps t limit level ed ep et el en h l = record {
  handed = record {
    declarations = h.declarations ∙ sym ed;
    policies = h.policies ∙ ap policies_of (sym ep);
    functions = h.functions ∙ ap (λ (y : Extensions B F γ). functions_of y) (sym et);
    ordered = h.ordered ∙ ap (λ (y : Extensions B F γ). ordered_of y) (sym et);
    limit = h.limit ∙ ap levels_of (sym el);
  };
  level = l ∙ sym en;
}

-- So what is printed for it is what may be printed.
pub accepted_prints : {B : _} {F : _} {γ : _} (b : Bundle) (g : Gate B F γ) (t : Extensions B F γ) (r : Result Printed AllocError) → ((x : Functions) → AgreesWith t x → IsAccepted (bundle_of x b).submission)
    → ((x : Functions) → AgreesWith t x → IsOf g (bundle_of x b).submission) → table_held g ≡ t → ((x : Functions) → AgreesWith t x → map id_text (warned_of g) ≡ warnings_of (bundle_of x b).submission)
    → IfOk r (λ p. (c : Course) → IsServedBy g b.request b.steps.items b.store c → PrintsAccepted c (status_of p.status) (string_bytes p.text))
    → IfOk r (λ p. (x : Functions) → IsFair t x → IsReadWell x b → Prints x (Some (bundle_of x b)) (status_of p.status) (string_bytes p.text))
accepted_prints {B} {F} {γ} b g t (Ok p) accepted held same warned h = λ x fair well.
    let proper = well.proper (accepted x fair.agrees) in
    run_prints x (bundle_of x b) (status_of p.status) (string_bytes p.text) (accepted x fair.agrees)
    (h (course_of x (bundle_of x b)) (record {
      course = record {
        submission = held x fair.agrees;
        table = proper.admitted.fair.table;
        fair = subst (λ (y : Extensions B F γ). IsFair y x) (sym same) fair;
        start = refl;
        context = context_represented x.table (request_of b.request).context well.context;
        steps = refl;
        bound = λ v k. represented_of_well x.table v.1 (proper.values v k);
        store = proper.admitted.store;
      };
      warned = warned x fair.agrees;
      store = store_is x b well.store;
    }))
accepted_prints b g t (Err e) accepted held same warned h = tt
