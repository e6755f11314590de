-- Runs of a session that was opened, and of one that wasn't: that did nothing, and so keeps the promises.
use Rattle.std.proofs.Common.{◌≡◌, ℕ, ◌++◌, ◌∷◌, List, [], ◌∙◌, None, Contains, Err, refl, sym, ap, subst, arith, inl}
use Rattle.std.proofs.lemmas.List.{append-nil}
use Rattle.cedar_expr_model.proofs.Lists.{contains_none}
use Rattle.cedar_expr_model.specs.Uid.{Uid}
use Rattle.cedar_evaluator_requests.specs.Views.{request_of}
use Rattle.cedar_evaluator_requests.specs.declared.request.Request.{Request}
use Rattle.cedar_gate_model.specs.Acceptance.{IsAccepted}
use Rattle.cedar_gate_model.specs.DoneBy.{CameTo}
use Rattle.cedar_gate_model.specs.Headline.{KeepsPromises}
use Rattle.cedar_gate_model.specs.RunsAnswer.{Course}
use Rattle.cedar_gate_model.specs.Session.{at_start, OpenRefusal, OpenFault, open_number}
use Rattle.cedar_gate_model.specs.Transcript.{Entry}
use Rattle.cedar_gate_openings.specs.Faults.{opens}
use Rattle.cedar_gate_runs.specs.Asking.{rounds_of, entries_done}
use Rattle.cedar_gate_runs.specs.Courses.{IsRunBy}
use Rattle.cedar_gate_runs.specs.Ends.{IsStopped}
use Rattle.cedar_gate_runs.specs.Hosts.{Answers}
use Rattle.cedar_gate_runs.specs.Lost.{AsksWell}
use Rattle.cedar_gate_runs.specs.declared.steps.Step.{Step}
use Rattle.cedar_gate_runs.specs.Transcripts.{entries_of}
use Rattle.cedar_gate_runs.specs.declared.stops.RunFault.{RunFault}
use Rattle.cedar_gate_runs.specs.declared.stops.RunFault.TheVariants as fault
use Rattle.cedar_gate_runs.specs.declared.transcript.Transcript.{Transcript}
use Rattle.cedar_gate_sessions.specs.Courses.{Stands}
use Rattle.cedar_gate_sessions.specs.declared.session.SessionAt.{SessionAt}
use Rattle.cedar_gate.specs.Courses.{IsCourseOf, IsRunAt, CourseOpens}
use Rattle.cedar_gate.specs.Gates.{IsSetupOf, accepted_in}
use Rattle.cedar_gate.specs.declared.gate.Gate.{Gate}

nothing_more : (before after : List Entry) (e : Entry) → [] ≡ before ++ e ∷ after → ⊥
nothing_more [] after e h = cc
nothing_more (b ∷ before) after e h = cc

-- nothing keeps the promises
nothing_keeps : (c : Course) → IsAccepted c.submission → KeepsPromises c [] None
nothing_keeps c a = record {
  admitted = a;
  once = λ t. t;
  near = λ u k. absurd (contains_none u k);
  few = omega arith;
  owed = λ before after d e ready. absurd (nothing_more before after _ e);
  legal = λ w k. record { entries = tt; answer = tt };
  whole = λ a e. cc;
}

pub done_nothing_keeps : (c : Course) (es : List Entry) → es ≡ [] → IsAccepted c.submission → KeepsPromises c es None
done_nothing_keeps c es e a = subst (λ (l : List Entry). KeepsPromises c l None) (sym e) (nothing_keeps c a)

-- what is handed out then
pub unopened : (c : Course) (t : Transcript) (n : ℕ) (f : OpenRefusal) → entries_of t.entries.items ≡ [] → n ≡ open_number f → OpenFault c.start f → IsStopped c (fault.Opening n t)
unopened c t n f none e h = (f, e, (none, h))

pub nothing_done : (c : Course) (t : Transcript) → entries_of t.entries.items ≡ [] → IsStopped c (fault.Memory t)
nothing_done c t none = inl (record { done = []; rest = c.steps; state = at_start; each = refl; did = (none, refl) })

-- a course that opens came to its start
came : (c : Course) → CourseOpens c → CameTo c [] at_start
came c opens = record {
  opens = opens;
  done = record { done = []; rest = c.steps; first = []; rounds = []; middle = at_start; each = refl; entries = refl; did = (refl, refl); loaded = refl };
}

-- it asked its host for nothing
pub asks_nothing : (c : Course) (f : RunFault) (asked : List (List Uid)) → entries_done f ≡ [] → CourseOpens c → AsksWell c asked asked (Err f)
asks_nothing c f asked none opens = record {
  last = record {
    state = at_start;
    came = subst (λ (es : List Entry). CameTo c es at_start) (sym none) (came c opens);
    last = inl (sym (append-nil asked) ∙ ap (λ (es : List Entry). asked ++ rounds_of es) (sym none));
  };
  once = λ proper fair. record { lists = []; gained = sym (append-nil asked); once = λ t. t; near = λ u k. absurd (contains_none u k) };
}

-- a session of the course that was opened runs it
pub run_by : {B : _} {F : _} {γ : _} {H : Type 0} (g : Gate B F γ) (q : Request) (given : List Step) (answers : H → Answers) (h : H) (e : SessionAt (Gate B F γ)) → opens (request_of q)
    → ((d : Course) (steps : List Step) → IsCourseOf g q steps d → Stands (λ (a : Gate B F γ). IsSetupOf a) (λ (a : Gate B F γ). accepted_in a) d at_start e)
    → (c : Course) → IsRunAt g q given answers h c → IsRunBy (Stands (λ (a : Gate B F γ). IsSetupOf a) (λ (a : Gate B F γ). accepted_in a)) e given answers h c
run_by g q given answers h e opened stands c r = record {
  session = record { opens = subst opens r.course.start opened; stands = stands c given r.course; steps = r.course.steps; bound = r.course.bound };
  host = r.host;
}
