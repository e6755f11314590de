-- What may be printed.
use Rattle.std.proofs.Common.{◌≡◌, ◌↔◌, ◌∙◌, Bool, true, false, Option, Some, None, List, refl, sym, ap, subst}
use Rattle.cedar_expr_model.specs.Name.{Text}
use Rattle.cedar_store_model.specs.Answer.{Answer}
use Rattle.cedar_gate_model.specs.Transcript.{Entry}
use Rattle.cedar_gate_model.specs.GateLaws.{admits}
use Rattle.cedar_gate_model.specs.Acceptance.{IsAccepted, number_of}
use Rattle.cedar_evaluator_model.specs.Functions.{Functions}
use Rattle.cedar_gate_model.specs.Bundle.{Bundle}
use Rattle.cedar_gate_model.specs.Runs.{End, DecidesInPart, answered, opening_refused, supply_refused, binding_refused, answer_refused}
use Rattle.cedar_gate_model.specs.Lines.{Status, is_answered, is_refused, is_unreadable, is_stopped, end_status, refused_line, unreadable_line, run_lines, setup_of, PrintsRun, Prints}
use Rattle.cedar_gate_model.specs.RunLaws.{EntriesAlike, EndsAlike}
use Rattle.cedar_gate_model.proofs.Gate.Accepting.{faults_exclude, admitted_accepted, refusal_has_fault}
use Rattle.cedar_gate_model.proofs.Gate.AlikeRuns.{runs_are_alike}

same_status : (e f : End) → EndsAlike e f → end_status e ≡ end_status f
same_status (answered a) (answered b) h = refl
same_status (opening_refused a) (opening_refused b) h = refl
same_status (supply_refused a) (supply_refused b) h = refl
same_status (binding_refused a) (binding_refused b) h = refl
same_status (answer_refused a) (answer_refused b) h = refl
same_status e f h = absurd h

one_run_status : (f : Functions) (b : Bundle) (a c : Status) (s t : Text) → PrintsRun f b a s → PrintsRun f b c t → a ≡ c
one_run_status f b a c s t h k =
    let r = runs_are_alike (DecidesInPart (setup_of f b) b.submission.policies) (setup_of f b) b.submission.policies b.steps h.0 k.0 h.1 k.1 h.2 k.2 in
    h.3 ∙ same_status h.1 k.1 r.1 ∙ sym k.3

pub one_status : (f : Functions) (input : Option Bundle) (a b : Status) (s t : Text) → Prints f input a s → Prints f input b t → a ≡ b
one_status f None a b s t h k = h.0 ∙ sym k.0
one_status f (Some x) is_answered is_answered s t h k = refl
one_status f (Some x) is_answered is_refused s t h k = absurd (faults_exclude k.0 x.submission k.1 h.0)
one_status f (Some x) is_answered is_stopped s t h k = one_run_status f x is_answered is_stopped s t h.1 k.1
one_status f (Some x) is_answered is_unreadable s t h k = absurd k
one_status f (Some x) is_refused is_answered s t h k = absurd (faults_exclude h.0 x.submission h.1 k.0)
one_status f (Some x) is_refused is_refused s t h k = refl
one_status f (Some x) is_refused is_stopped s t h k = absurd (faults_exclude h.0 x.submission h.1 k.0)
one_status f (Some x) is_refused is_unreadable s t h k = absurd k
one_status f (Some x) is_stopped is_answered s t h k = one_run_status f x is_stopped is_answered s t h.1 k.1
one_status f (Some x) is_stopped is_refused s t h k = absurd (faults_exclude k.0 x.submission k.1 h.0)
one_status f (Some x) is_stopped is_stopped s t h k = refl
one_status f (Some x) is_stopped is_unreadable s t h k = absurd k
one_status f (Some x) is_unreadable b s t h k = absurd h

pub unreadable_alone : (f : Functions) (a : Status) (s : Text) → Prints f None a s ↔ ((a ≡ is_unreadable) × (s ≡ unreadable_line))
unreadable_alone f a s = (λ h. h, λ h. h)

pub only_unreadable : (f : Functions) (input : Option Bundle) (s : Text) → Prints f input is_unreadable s → input ≡ None
only_unreadable f None s h = refl
only_unreadable f (Some b) s h = absurd h

refused_where : (f : Functions) (b : Bundle) → (IsAccepted b.submission → ⊥) → (text : Text) × Prints f (Some b) is_refused text
refused_where f b h = by_gate (admits b.submission) refl
  where
    by_gate : (t : Bool) → admits b.submission ≡ t → (text : Text) × Prints f (Some b) is_refused text
    by_gate true e = absurd (h (admitted_accepted b.submission e))
    by_gate false e = let r = refusal_has_fault b.submission e in (refused_line (number_of r.0), (r.0, r.1, refl))

pub refusals_are_faults : (f : Functions) (b : Bundle) → ((text : Text) × Prints f (Some b) is_refused text) ↔ (IsAccepted b.submission → ⊥)
refusals_are_faults f b = (λ h a. faults_exclude (h.1).0 b.submission (h.1).1 a, refused_where f b)

-- only an answer has the status of one
answer_there : (e : End) → is_answered ≡ end_status e → (a : Answer) × (e ≡ answered a)
answer_there (answered a) h = (a, refl)
answer_there (opening_refused a) h = cc
answer_there (supply_refused a) h = cc
answer_there (binding_refused a) h = cc
answer_there (answer_refused a) h = cc

pub one_answer : (f : Functions) (b : Bundle) (s t : Text) → Prints f (Some b) is_answered s → Prints f (Some b) is_answered t
    → (a : Answer) × (es : List Entry) × (fs : List Entry) × (s ≡ run_lines b es (answered a)) × (t ≡ run_lines b fs (answered a)) × EntriesAlike es fs
one_answer f b s t h k =
    let p = h.1 in
    let q = k.1 in
    let r = runs_are_alike (DecidesInPart (setup_of f b) b.submission.policies) (setup_of f b) b.submission.policies b.steps p.0 q.0 p.1 q.1 p.2 q.2 in
    let i = answer_there p.1 p.3 in
    let j = answer_there q.1 q.3 in
    let same : i.0 ≡ j.0 = subst (λ e. EndsAlike (answered i.0) e) j.1 (subst (λ e. EndsAlike e q.1) i.1 r.1) in
    (i.0, p.0, q.0, p.4 ∙ ap (run_lines b p.0) i.1, q.4 ∙ ap (run_lines b q.0) (j.1 ∙ ap answered (sym same)), r.0)
