-- What is said of an input, by what is found and by what the gate says.
use Rattle.std.proofs.Common.{◌≡◌, ℕ, ◌==◌, List, [], ◌∷◌, vec_len, false, Option, Some, None, Result, Ok, Err, IfOk, map, string_bytes, refl, sym, ap, ◌∙◌, subst}
use Rattle.std.specs.declared.alloc.AllocError.{AllocError}
use Rattle.std.specs.declared.alloc.Global.{Global}
use Rattle.std.specs.declared.vec.Vec.{Vec}
use Rattle.cedar_evaluator_model.specs.Functions.{Functions}
use Rattle.cedar_evaluator_restricted_exprs.specs.Answers.{AgreesWith}
use Rattle.cedar_expr_functions.specs.declared.extensions.Extensions.{Extensions}
use Rattle.cedar_expr_model.specs.Lists.{is_nil}
use Rattle.cedar_gate_accepted.proofs.Listed.{nil_length, nil_map}
use Rattle.cedar_gate_accepted.specs.Causes.{IsRefusedFor, gate_fault_number, is_memory}
use Rattle.cedar_gate_accepted.specs.declared.fault.GateFault.{GateFault}
use Rattle.cedar_gate_bundles.specs.Bundles.{submission_of, bundle_of}
use Rattle.cedar_gate_bundles.specs.declared.bundle.Bundle as code
use Rattle.cedar_gate_bundles.specs.declared.bundle.Submission.{Submission as CodeSubmission}
use Rattle.cedar_gate_model.specs.Acceptance.{Submission, IsAccepted}
use Rattle.cedar_gate_model.specs.Bundle.{Bundle}
use Rattle.cedar_gate_runs.specs.declared.status.Status.{Status}
use Rattle.cedar_gate_runs.specs.declared.status.Status.TheVariants.{Answered, Refused}
use Rattle.cedarcheck.proofs.Broken.{refused_number}
use Rattle.cedarcheck.specs.Faults.{HasNumbers, numbers_in}
use Rattle.cedarcheck.specs.Lines.{AreRefusals}
use Rattle.cedarcheck.specs.Explains.{ExplainsBy, ExplainsSubmission, Explains, IsUnreadable, IsRefusalOf}
use Rattle.cedarcheck.specs.declared.findings.Finding.{Finding}
use Rattle.cedarcheck.specs.declared.report.Report.{Report}

-- the faults that are found, of which there is one
pub some_number : (fs : Vec Finding Global) → (vec_len fs == 0) ≡ false → is_nil (numbers_in fs.items) ≡ false
some_number fs h = nil_map (λ (f : Finding). f.number) fs.items ∙ nil_length fs.items ∙ ap (λ n. n == 0) (sym fs.ok.0) ∙ h

of_found : (s : Submission) (p : Report) (ns : List ℕ) → p.status ≡ Refused → numbers_in p.found.items ≡ ns → HasNumbers s ns → is_nil ns ≡ false → AreRefusals ns (string_bytes p.text) → ExplainsSubmission s p
of_found s p ns e f h k l =
    subst (λ (m : Status). ExplainsBy s m (numbers_in p.found.items) (string_bytes p.text)) (sym e)
    (subst (λ (ms : List ℕ). HasNumbers s ms × (is_nil ms ≡ false) × AreRefusals ms (string_bytes p.text)) (sym f) (h, k, l))

of_accepted : (s : Submission) (p : Report) → p.status ≡ Answered → p.found.items ≡ [] → IsAccepted s → ExplainsSubmission s p
of_accepted s p e f h = subst (λ (m : Status). ExplainsBy s m (numbers_in p.found.items) (string_bytes p.text)) (sym e) (h, ap numbers_in f)

-- a report of one fault by which the gate refuses
pub one_refusal : (f : GateFault) (fs : Vec Finding Global) (r : Result Report AllocError) → is_memory f ≡ false → numbers_in fs.items ≡ gate_fault_number f ∷ []
    → IfOk r (λ p. p.status ≡ Refused) → IfOk r (λ p. p.found ≡ fs) → IfOk r (λ p. AreRefusals (numbers_in fs.items) (string_bytes p.text)) → IfOk r (IsRefusalOf f)
one_refusal f fs (Ok p) k n e g l = record {
  told = k;
  status = e;
  number = ap (λ (v : Vec Finding Global). numbers_in v.items) g ∙ n;
  line = subst (λ (ns : List ℕ). AreRefusals ns (string_bytes p.text)) n l;
}
one_refusal f fs (Err o) k n e g l = tt

module _ {B : _} {F : _} {γ : _} (t : Extensions B F γ) (r : Result Report AllocError) where
  abbrev pub EachExplains : (Functions → Option Bundle) → Type 0
  EachExplains read = IfOk r (λ p. (x : Functions) → AgreesWith t x → Explains (read x) p)

  abbrev pub EachExplainsSubmission : CodeSubmission → Type 0
  EachExplainsSubmission s = IfOk r (λ p. (x : Functions) → AgreesWith t x → ExplainsSubmission (submission_of x s) p)

  -- what is found, what the gate refuses, and what it accepts
  pub found_explains : (s : CodeSubmission) (fs : Vec Finding Global) → ((x : Functions) → AgreesWith t x → HasNumbers (submission_of x s) (numbers_in fs.items)) → is_nil (numbers_in fs.items) ≡ false
      → IfOk r (λ p. p.status ≡ Refused) → IfOk r (λ p. p.found ≡ fs) → IfOk r (λ p. AreRefusals (numbers_in fs.items) (string_bytes p.text)) → EachExplainsSubmission s
  found_explains s fs h k e f l = go r e f l
    where
      go : (q : Result Report AllocError) → IfOk q (λ p. p.status ≡ Refused) → IfOk q (λ p. p.found ≡ fs) → IfOk q (λ p. AreRefusals (numbers_in fs.items) (string_bytes p.text))
          → IfOk q (λ p. (x : Functions) → AgreesWith t x → ExplainsSubmission (submission_of x s) p)
      go (Ok p) e f l = λ x a. of_found (submission_of x s) p (numbers_in fs.items) e (ap (λ (v : Vec Finding Global). numbers_in v.items) f) (h x a) k l
      go (Err o) e f l = tt

  pub refusal_explains : (s : CodeSubmission) (f : GateFault) → ((x : Functions) → AgreesWith t x → IsRefusedFor (submission_of x s) f) → IfOk r (IsRefusalOf f) → EachExplainsSubmission s
  refusal_explains s f there h = go r h
    where
      go : (q : Result Report AllocError) → IfOk q (IsRefusalOf f) → IfOk q (λ p. (x : Functions) → AgreesWith t x → ExplainsSubmission (submission_of x s) p)
      go (Ok p) h = λ x a. of_found (submission_of x s) p (gate_fault_number f ∷ []) h.status h.number (refused_number (submission_of x s) f (there x a) h.told, tt) refl h.line
      go (Err o) h = tt

  pub accepted_explains : (s : CodeSubmission) → ((x : Functions) → AgreesWith t x → IsAccepted (submission_of x s)) → IfOk r (λ p. p.status ≡ Answered) → IfOk r (λ p. p.found.items ≡ []) → EachExplainsSubmission s
  accepted_explains s h e f = go r e f
    where
      go : (q : Result Report AllocError) → IfOk q (λ p. p.status ≡ Answered) → IfOk q (λ p. p.found.items ≡ []) → IfOk q (λ p. (x : Functions) → AgreesWith t x → ExplainsSubmission (submission_of x s) p)
      go (Ok p) e f = λ x a. of_accepted (submission_of x s) p e f (h x a)
      go (Err o) e f = tt

  -- an input that reads as a bundle, one that reads as another does, and one that doesn't read
  pub bundle_explains : (read : Functions → Option Bundle) (b : code.Bundle) → ((x : Functions) → AgreesWith t x → read x ≡ Some (bundle_of x b)) → EachExplainsSubmission b.submission → EachExplains read
  bundle_explains read b e h = go r h
    where
      go : (q : Result Report AllocError) → IfOk q (λ p. (x : Functions) → AgreesWith t x → ExplainsSubmission (submission_of x b.submission) p) → IfOk q (λ p. (x : Functions) → AgreesWith t x → Explains (read x) p)
      go (Ok p) h = λ x a. subst (λ (o : Option Bundle). Explains o p) (sym (e x a)) (h x a)
      go (Err o) h = tt

  pub same_explains : (read other : Functions → Option Bundle) → ((x : Functions) → AgreesWith t x → read x ≡ other x) → EachExplains other → EachExplains read
  same_explains read other e h = go r h
    where
      go : (q : Result Report AllocError) → IfOk q (λ p. (x : Functions) → AgreesWith t x → Explains (other x) p) → IfOk q (λ p. (x : Functions) → AgreesWith t x → Explains (read x) p)
      go (Ok p) h = λ x a. subst (λ (o : Option Bundle). Explains o p) (sym (e x a)) (h x a)
      go (Err o) h = tt

  pub unread_explains : (read : Functions → Option Bundle) → ((x : Functions) → AgreesWith t x → read x ≡ None) → IfOk r IsUnreadable → EachExplains read
  unread_explains read e h = go r h
    where
      go : (q : Result Report AllocError) → IfOk q IsUnreadable → IfOk q (λ p. (x : Functions) → AgreesWith t x → Explains (read x) p)
      go (Ok p) h = λ x a. subst (λ (o : Option Bundle). Explains o p) (sym (e x a)) h
      go (Err o) h = tt
