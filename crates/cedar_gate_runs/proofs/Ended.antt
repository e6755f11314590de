-- How a run ends.
use Rattle.std.proofs.Common.{◌≡◌, List, [], ◌++◌, Some, sym, ap, ◌∙◌, subst, append_assoc}
use Rattle.std.specs.Prelude.{option_map, Result, Ok, Err, IfErr}
use Rattle.cedar_evaluator_model.specs.Members.{Concrete}
use Rattle.cedar_evaluator_requests.specs.Views.{answer_of}
use Rattle.cedar_evaluator_requests.specs.declared.response.Response.{Response}
use Rattle.cedar_gate_model.specs.RunsAnswer.{Course, session_of}
use Rattle.cedar_gate_model.specs.Runs.{answered, DecidesInPart, Follows}
use Rattle.cedar_gate_model.specs.Session.{State, at_start}
use Rattle.cedar_gate_model.specs.Transcript.{Step, Entry}
use Rattle.cedar_gate_runs.proofs.Stopped.{stopped_after, ended_after}
use Rattle.cedar_gate_runs.specs.Courses.{BindRepresented, DidSteps, IsHost, IsOf, IsRunBy}
use Rattle.cedar_gate_runs.specs.Ends.{IsAnswered}
use Rattle.cedar_gate_runs.specs.Hosts.{Answers}
use Rattle.cedar_gate_runs.specs.Running.{Went, DidLoadAll}
use Rattle.cedar_gate_runs.specs.Steps.{steps_of}
use Rattle.cedar_gate_runs.specs.Stopping.{IsRefused, HasStopped, Halts, ComesTo, Finished}
use Rattle.cedar_gate_runs.specs.declared.steps.Step as code
use Rattle.cedar_gate_runs.specs.declared.stops_with.Stop.{Stop}
use Rattle.cedar_gate_runs.specs.Transcripts.{entries_of}
use Rattle.cedar_gate_runs.specs.declared.transcript.Transcript.{Transcript}

pub carried_err : {A B : Type 0} (P Q : B → Type 0) (r : Result A B) → ((e : B) → P e → Q e) → IfErr r P → IfErr r Q
carried_err P Q (Ok a) f h = tt
carried_err P Q (Err e) f h = f e h

module _ {E : Type 0} (Stands : State → E → Type 0) (c : Course) (s : State) (steps : List Step) (before mid after : List Entry) (d e : E) (w : Went Stands (DidSteps c s steps) before mid d) (v : Went Stands (DidLoadAll (session_of c) w.state) mid after e) where
  both_added : after ≡ before ++ (w.entries ++ v.entries)
  both_added = v.added ∙ ap (λ zs. zs ++ v.entries) w.added ∙ append_assoc before w.entries v.entries

  -- all steps, rounds until nothing is wanted, and the answer
  pub comes_to : (told : Concrete) → Finished c v.state told → ComesTo (session_of c) c.submission.policies s steps before after told
  comes_to told f = record {
    entries = w.entries ++ v.entries;
    answer = f.answer;
    added = both_added;
    same = f.same;
    follows = ended_after (session_of c) c.submission.policies s w.state v.state steps w.entries v.entries (answered f.answer) w.leads v.leads.0 f.finishes;
  }

  -- or no answer
  pub halts_last : (stop : Stop) → IsRefused (session_of c) c.submission.policies v.state [] [] stop → Halts (session_of c) c.submission.policies s steps before after stop
  halts_last stop r = record {
    entries = w.entries ++ v.entries;
    added = both_added;
    stopped = stopped_after (session_of c) c.submission.policies s w.state v.state steps w.entries v.entries stop w.leads v.leads.0 r;
  }

module _ {E : Type 0} (Stands : Course → State → E → Type 0) (c : Course) (e : E) (steps : List code.Step) (o : IsOf Stands c e steps) where
  pub steps_represented : BindRepresented c (steps_of steps)
  steps_represented = subst (BindRepresented c) (sym o.steps) o.bound

  pub run_answers : (t : Transcript) (r : Response) (before : List Entry) → t.answer ≡ Some r → before ≡ [] → ComesTo (session_of c) c.submission.policies at_start (steps_of steps) before (entries_of t.entries.items) (answer_of r) → IsAnswered c t
  run_answers t r before is none h =
      let added : entries_of t.entries.items ≡ h.entries = h.added ∙ ap (λ zs. zs ++ h.entries) none in
      let follows : Follows (DecidesInPart (session_of c) c.submission.policies) (session_of c) c.submission.policies at_start c.steps (entries_of t.entries.items) (answered h.answer) = subst (λ zs. Follows (DecidesInPart (session_of c) c.submission.policies) (session_of c) c.submission.policies at_start zs (entries_of t.entries.items) (answered h.answer)) o.steps
      (subst (λ zs. Follows (DecidesInPart (session_of c) c.submission.policies) (session_of c) c.submission.policies at_start (steps_of steps) zs (answered h.answer)) (sym added) h.follows) in
      (h.answer, ap (option_map answer_of) is ∙ ap Some h.same, (o.opens, follows))

  pub run_stops : (before after : List Entry) (stop : Stop) → before ≡ [] → Halts (session_of c) c.submission.policies at_start (steps_of steps) before after stop → HasStopped (session_of c) c.submission.policies at_start c.steps after stop
  run_stops before after stop none h =
      let added : after ≡ h.entries = h.added ∙ ap (λ zs. zs ++ h.entries) none in
      subst (λ zs. HasStopped (session_of c) c.submission.policies at_start zs after stop) o.steps (subst (λ zs. HasStopped (session_of c) c.submission.policies at_start (steps_of steps) zs stop) (sym added) h.stopped)

-- the host of a run is one through the steps that were given
pub host_given : {E H : Type 0} (Stands : Course → State → E → Type 0) (answers : H → Answers) (c : Course) (e : E) (steps : List code.Step) (h : H) → IsRunBy Stands e steps answers h c → IsHost answers c at_start (steps_of steps) h
host_given Stands answers c e steps h by = subst (λ zs. IsHost answers c at_start zs h) (sym by.session.steps) by.host
