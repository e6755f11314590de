-- What is printed may be printed.
use Rattle.std.proofs.Common.{◌≡◌, ◌++◌, ◌≤◌, ℕ, List, [], false, Option, Some, None, Result, Ok, Err, IfOk, string_bytes, subst, refl, sym, ap, ◌∙◌}
use Rattle.std.specs.Str.{is_utf8}
use Rattle.std.specs.declared.alloc.AllocError.{AllocError}
use Rattle.serde_json.specs.Data.{Data}
use Rattle.serde_json.specs.Read.{read}
use Rattle.cedar_expr_model.specs.Name.{Text}
use Rattle.cedar_schema_builder.specs.Faults.{fault_told}
use Rattle.cedar_schema_model.specs.WellFormed.{SchemaFault}
use Rattle.cedar_gate_model.proofs.Reading.Bundles.{numbers_in_range}
use Rattle.cedar_gate_model.proofs.Reading.Steps.{given_some, if_some_of}
use Rattle.cedar_gate_model.specs.Reading.{given}
use Rattle.cedar_gate_model.specs.Acceptance.{Submission, Cause, schema, external, repeated_policy, unlinked_slot, slot_outside_scope, unknown_in_policy, nests_too_deep, unknown_entity_type, unknown_action, no_member, ill_typed, reaches_too_far, number_of, HasFault, IsAccepted}
use Rattle.cedar_evaluator_model.specs.Functions.{Functions}
use Rattle.cedar_gate_model.specs.Bundle.{Bundle}
use Rattle.cedar_gate_model.specs.Lines.{Status, Prints, refused_line, unreadable_line, warning_lines, run_lines, end_status}
use Rattle.cedar_gate_model.specs.ReadingBundle.{input_read, bundle_read}
use Rattle.cedar_gate_model.specs.Runs.{End, answered, opening_refused, supply_refused, binding_refused, answer_refused}
use Rattle.cedar_gate_model.specs.RunsAnswer.{Course, IsRun, course_of}
use Rattle.cedar_gate_model.specs.Transcript.{Entry}
use Rattle.cedar_gate_accepted.specs.Causes.{gate_fault_number, is_memory, IsTold, IsRefusedFor}
use Rattle.cedar_gate_accepted.specs.declared.fault.GateFault.{GateFault}
use Rattle.cedar_gate_accepted.specs.declared.fault.GateFault.TheVariants as fault
use Rattle.cedar_evaluator_restricted_exprs.specs.Answers.{AgreesWith}
use Rattle.cedar_expr_functions.specs.declared.extensions.Extensions.{Extensions}
use Rattle.cedar_gate.specs.Courses.{IsFair}
use Rattle.cedar_gate.specs.Printed.{IsReadWell, PrintsAccepted, IsOfRun}
use Rattle.cedar_gate_bundles.specs.Bundles.{bundle_of}
use Rattle.cedar_gate_bundles.specs.declared.bundle.Bundle as code
use Rattle.cedar_gate_runs.specs.Statuses.{status_of}
use Rattle.cedar_gate_runs.specs.declared.status.Status.{Status as CodeStatus}
use Rattle.cedar_gate_runs.specs.declared.status.Status.TheVariants.{Answered, Refused, Unreadable, Stopped}
use Rattle.cedar_gate.specs.Serving.{Judged}
use Rattle.cedar_gate.specs.declared.printing.Printed.{Printed}

-- A fault of the submission is named, by its number.
abbrev NamesFault : Submission → Text → Type 0
NamesFault s text = (c : Cause) × HasFault c s × (text ≡ refused_line (number_of c))

-- a fault other than out of memory is printed by its number
told_prints : (s : Submission) (o : Option SchemaFault) (text : Text) → IsTold s o → text ≡ refused_line 1 → NamesFault s text
told_prints s None text h e = absurd h
told_prints s (Some f) text h e = (schema f, h, e)

refusal_prints : (s : Submission) (f : GateFault) (text : Text) → IsRefusedFor s f → is_memory f ≡ false → text ≡ refused_line (gate_fault_number f) → NamesFault s text
refusal_prints s fault.OutOfMemory text h k e = absurd (cc)
refusal_prints s (fault.Schema x) text h k e = told_prints s (fault_told x) text h e
refusal_prints s fault.External text h k e = (external, h, e)
refusal_prints s fault.RepeatedPolicy text h k e = (repeated_policy, h, e)
refusal_prints s fault.UnlinkedSlot text h k e = (unlinked_slot, h, e)
refusal_prints s fault.SlotOutsideScope text h k e = (slot_outside_scope, h, e)
refusal_prints s fault.UnknownInPolicy text h k e = (unknown_in_policy, h, e)
refusal_prints s fault.Nesting text h k e = (nests_too_deep, h, e)
refusal_prints s fault.UnknownEntityType text h k e = (unknown_entity_type, h, e)
refusal_prints s fault.UnknownAction text h k e = (unknown_action, h, e)
refusal_prints s fault.EnumMember text h k e = (no_member, h, e)
refusal_prints s fault.IllTyped text h k e = (ill_typed, h, e)
refusal_prints s (fault.Level vs) text h k e = (reaches_too_far, h.0, e)

-- the limit of a bundle that is read
pub input_bundle : (x : Functions) (bytes : List ℕ) (b : Bundle) → input_read x bytes ≡ Some b → (d : Data) × (bundle_read x d ≡ Some b)
unfolding input_read
input_bundle x bytes b e =
    let p = if_some_of (is_utf8 bytes) (given (read bytes) (bundle_read x)) b e in
    let q = given_some (read bytes) (bundle_read x) b p.1 in
    (q.0, q.2)

-- what is printed for a bundle: the number of a fault, or the lines of a run
pub fault_prints : {B : _} {F : _} {γ : _} (t : Extensions B F γ) (b : code.Bundle) (f : GateFault) (r : Result Printed AllocError) → ((x : Functions) → AgreesWith t x → IsRefusedFor (bundle_of x b).submission f)
    → IfOk r (λ p. (is_memory f ≡ false) × (p.status ≡ Refused) × (string_bytes p.text ≡ refused_line (gate_fault_number f)))
    → IfOk r (λ p. (x : Functions) → IsFair t x → IsReadWell x b → Prints x (Some (bundle_of x b)) (status_of p.status) (string_bytes p.text))
fault_prints t b f (Ok p) there h = λ x fair _.
    subst (λ (s : CodeStatus). Prints x (Some (bundle_of x b)) (status_of s) (string_bytes p.text)) (sym h.1) (refusal_prints (bundle_of x b).submission f (string_bytes p.text) (there x fair.agrees) h.0 h.2)
fault_prints t b f (Err e) there h = tt

end_prints : (x : Functions) (b : Bundle) → IsAccepted b.submission → (es : List Entry) (end : End) → IsRun (course_of x b) es end → (text : Text) → text ≡ run_lines b es end → Prints x (Some b) (end_status end) text
end_prints x b accepted es (answered a) run text e = (accepted, (es, answered a, run, refl, e))
end_prints x b accepted es (opening_refused f) run text e = (accepted, (es, opening_refused f, run, refl, e))
end_prints x b accepted es (supply_refused f) run text e = (accepted, (es, supply_refused f, run, refl, e))
end_prints x b accepted es (binding_refused f) run text e = (accepted, (es, binding_refused f, run, refl, e))
end_prints x b accepted es (answer_refused f) run text e = (accepted, (es, answer_refused f, run, refl, e))

pub run_prints : (x : Functions) (b : Bundle) (status : Status) (text : Text) → IsAccepted b.submission → PrintsAccepted (course_of x b) status text → Prints x (Some b) status text
run_prints x b status text accepted h =
    let (es, end, run, is, lines) = h.prints in
    subst (λ (m : Status). Prints x (Some b) m text) (sym is) (end_prints x b accepted es end run text (h.all ∙ ap (λ l. warning_lines b.submission ++ l) lines))

-- what is printed for an input that is a bundle, and for one that is none
pub bundle_prints : {B : _} {F : _} {γ : _} (t : Extensions B F γ) (bytes : List ℕ) (b : code.Bundle) (r : Result Printed AllocError) → ((x : Functions) → AgreesWith t x → input_read x bytes ≡ Some (bundle_of x b))
    → ((x : Functions) → IsFair t x → IsReadWell x b) → IfOk r (λ p. (x : Functions) → IsFair t x → IsReadWell x b → Prints x (Some (bundle_of x b)) (status_of p.status) (string_bytes p.text))
    → IfOk r (λ p. (x : Functions) → IsFair t x → Prints x (input_read x bytes) (status_of p.status) (string_bytes p.text))
bundle_prints t bytes b (Ok p) e well h = λ x fair. subst (λ (o : Option Bundle). Prints x o (status_of p.status) (string_bytes p.text)) (sym (e x fair.agrees)) (h x fair (well x fair))
bundle_prints t bytes b (Err a) e well h = tt

pub no_bundle_prints : {B : _} {F : _} {γ : _} (t : Extensions B F γ) (bytes : List ℕ) (r : Result Printed AllocError) → ((x : Functions) → AgreesWith t x → input_read x bytes ≡ None)
    → IfOk r (λ p. (p.status ≡ Unreadable) × (string_bytes p.text ≡ unreadable_line)) → IfOk r (λ p. (x : Functions) → IsFair t x → Prints x (input_read x bytes) (status_of p.status) (string_bytes p.text))
no_bundle_prints t bytes (Ok p) e h = λ x fair.
    subst (λ (o : Option Bundle). Prints x o (status_of p.status) (string_bytes p.text)) (sym (e x fair.agrees)) (ap (λ (s : CodeStatus). status_of s) h.0, h.1)
no_bundle_prints t bytes (Err a) e h = tt

-- what is judged of a bundle whose submission is refused or accepted, and of an input that is no bundle
pub fault_judged : {B : _} {F : _} {γ : _} (t : Extensions B F γ) (b : code.Bundle) (f : GateFault) (r : Result Printed AllocError) → ((x : Functions) → AgreesWith t x → IsRefusedFor (bundle_of x b).submission f)
    → IfOk r (λ p. (is_memory f ≡ false) × (p.status ≡ Refused) × (string_bytes p.text ≡ refused_line (gate_fault_number f)))
    → IfOk r (λ p. (x : Functions) → AgreesWith t x → Judged (Some (bundle_of x b)) (status_of p.status) (string_bytes p.text))
fault_judged t b f (Ok p) there h = λ x a.
    subst (λ (s : CodeStatus). Judged (Some (bundle_of x b)) (status_of s) (string_bytes p.text)) (sym h.1) (refusal_prints (bundle_of x b).submission f (string_bytes p.text) (there x a) h.0 h.2)
fault_judged t b f (Err e) there h = tt

status_judged : (b : Bundle) (status : CodeStatus) (text : Text) → IsAccepted b.submission → IsOfRun status → Judged (Some b) (status_of status) text
status_judged b Answered text accepted h = accepted
status_judged b Stopped text accepted h = accepted
status_judged b Refused text accepted h = absurd h
status_judged b Unreadable text accepted h = absurd h

pub run_judged : {B : _} {F : _} {γ : _} (t : Extensions B F γ) (b : code.Bundle) (r : Result Printed AllocError) → ((x : Functions) → AgreesWith t x → IsAccepted (bundle_of x b).submission) → IfOk r (λ p. IsOfRun p.status)
    → IfOk r (λ p. (x : Functions) → AgreesWith t x → Judged (Some (bundle_of x b)) (status_of p.status) (string_bytes p.text))
run_judged t b (Ok p) accepted h = λ x a. status_judged (bundle_of x b) p.status (string_bytes p.text) (accepted x a) h
run_judged t b (Err e) accepted h = tt

pub bundle_judged : {B : _} {F : _} {γ : _} (t : Extensions B F γ) (bytes : List ℕ) (b : code.Bundle) (r : Result Printed AllocError) → ((x : Functions) → AgreesWith t x → input_read x bytes ≡ Some (bundle_of x b))
    → IfOk r (λ p. (x : Functions) → AgreesWith t x → Judged (Some (bundle_of x b)) (status_of p.status) (string_bytes p.text)) → IfOk r (λ p. (x : Functions) → AgreesWith t x → Judged (input_read x bytes) (status_of p.status) (string_bytes p.text))
bundle_judged t bytes b (Ok p) e h = λ x a. subst (λ (o : Option Bundle). Judged o (status_of p.status) (string_bytes p.text)) (sym (e x a)) (h x a)
bundle_judged t bytes b (Err o) e h = tt

pub no_bundle_judged : {B : _} {F : _} {γ : _} (t : Extensions B F γ) (bytes : List ℕ) (r : Result Printed AllocError) → ((x : Functions) → AgreesWith t x → input_read x bytes ≡ None)
    → IfOk r (λ p. (p.status ≡ Unreadable) × (string_bytes p.text ≡ unreadable_line)) → IfOk r (λ p. (x : Functions) → AgreesWith t x → Judged (input_read x bytes) (status_of p.status) (string_bytes p.text))
no_bundle_judged t bytes (Ok p) e h = λ x a.
    subst (λ (o : Option Bundle). Judged o (status_of p.status) (string_bytes p.text)) (sym (e x a)) (ap (λ (s : CodeStatus). status_of s) h.0, h.1)
no_bundle_judged t bytes (Err o) e h = tt
