-- Runs keep the promises.
use Rattle.std.proofs.Common.{◌≡◌, ℕ, List, Option, Some, None, subst}
use Rattle.std.specs.Str.{is_utf8}
use Rattle.serde_json.specs.Data.{Data}
use Rattle.serde_json.specs.Read.{read}
use Rattle.cedar_expr_model.specs.Name.{Text}
use Rattle.cedar_store_model.specs.Answer.{Answer}
use Rattle.cedar_gate_model.specs.Reading.{given}
use Rattle.cedar_gate_model.specs.Acceptance.{IsAccepted}
use Rattle.cedar_evaluator_model.specs.Functions.{Functions}
use Rattle.cedar_gate_model.specs.Bundle.{Bundle}
use Rattle.cedar_gate_model.specs.Lines.{Status, is_answered, is_refused, is_unreadable, is_stopped, PrintsRun, Prints}
use Rattle.cedar_gate_model.specs.ReadingBundle.{input_read, bundle_read}
use Rattle.cedar_gate_model.specs.Runs.{End, answered, opening_refused, supply_refused, binding_refused, answer_refused}
use Rattle.cedar_gate_model.specs.RunsAnswer.{Course, session_of, course_of, IsProper, MayRun, RunsMayBe, MakeFairly, BundlesAreProper, GivenDecisionsAreTheAnswers, AnswersAreTheWholeStores, ErrorsAreExpected, ReadyDecisionsAreOwed, ProperRunsAreLegal}
use Rattle.cedar_gate_model.specs.RunsAsk.{RunsAskOnce, RunsAskInTheSlice, RunsAskTheSlice, RunsHaveFewRounds}
use Rattle.cedar_gate_model.specs.Transcript.{Entry}
use Rattle.cedar_gate_model.proofs.Reading.Steps.{given_some, if_some_of}
use Rattle.cedar_gate_model.specs.DoneBy.{AnsweredRunsAreLegal}
use Rattle.cedar_gate_model.specs.Headline.{IsLegalSoFar, AnsweredWell, KeepsPromises, answer_in, Headline, PromisesRun, Promises}

module _ (may : RunsMayBe) (once : RunsAskOnce) (within : RunsAskInTheSlice) (exact : RunsAskTheSlice) (few : RunsHaveFewRounds) (early : GivenDecisionsAreTheAnswers) (owed : ReadyDecisionsAreOwed) (whole : AnswersAreTheWholeStores) (errors : ErrorsAreExpected)
    (legal : ProperRunsAreLegal) (answered_legal : AnsweredRunsAreLegal) where
  answered_well : (c : Course) (es : List Entry) (a : Answer) → IsProper c → MayRun c es (answered a) → AnsweredWell c es a
  answered_well c es a proper run = record {
    asked = exact (session_of c) c.submission.policies c.steps es a proper.admitted.context run;
    answer = whole c es a run;
    early = λ d k. early c es a d proper run k;
    errors = λ e k. errors c es a e proper run k;
  }

  -- without an answer
  unanswered : (c : Course) (es : List Entry) (end : End) → IsProper c → MayRun c es end → IsLegalSoFar c es None
  unanswered c es end proper run w complete = record { entries = legal c es end proper run w complete; answer = tt }

  legal_run : (c : Course) (es : List Entry) (end : End) → IsProper c → MayRun c es end → IsLegalSoFar c es (answer_in end)
  legal_run c es (answered a) proper run = answered_legal c es a proper run
  legal_run c es (opening_refused f) proper run = unanswered c es (opening_refused f) proper run
  legal_run c es (supply_refused f) proper run = unanswered c es (supply_refused f) proper run
  legal_run c es (binding_refused f) proper run = unanswered c es (binding_refused f) proper run
  legal_run c es (answer_refused f) proper run = unanswered c es (answer_refused f) proper run

  -- an answer is that of the run
  answered_by : (c : Course) (es : List Entry) (end : End) → IsProper c → MayRun c es end → (a : Answer) → answer_in end ≡ Some a → AnsweredWell c es a
  answered_by c es (answered b) proper run a is = answered_well c es a proper (let q : b ≡ a = cc in subst (λ (z : Answer). MayRun c es (answered z)) q run)
  answered_by c es (opening_refused f) proper run a is = cc
  answered_by c es (supply_refused f) proper run a is = cc
  answered_by c es (binding_refused f) proper run a is = cc
  answered_by c es (answer_refused f) proper run a is = cc

  pub runs_keep : Headline
  runs_keep c es end proper fair exact =
      let run = may c es end proper fair exact in
      record {
        admitted = proper.admitted.accepted;
        once = once (session_of c) c.submission.policies c.steps es end run;
        near = within (session_of c) c.submission.policies c.steps es end proper.admitted.context run;
        few = few (session_of c) c.submission.policies c.steps es end run;
        owed = λ before after d is ready. owed c before after d end proper (subst (λ xs. MayRun c xs end) is run) ready;
        legal = legal_run c es end proper run;
        whole = answered_by c es end proper run;
      }

-- a bundle that an input reads as
bundle_of : (f : Functions) (bytes : List ℕ) (b : Bundle) → input_read f bytes ≡ Some b → (d : Data) × (bundle_read f d ≡ Some b)
unfolding input_read
bundle_of f bytes b e =
    let p = if_some_of (is_utf8 bytes) (given (read bytes) (bundle_read f)) b e in
    let q = given_some (read bytes) (bundle_read f) b p.1 in
    (q.0, q.2)

module _ (headline : Headline) (bundles : BundlesAreProper) (f : Functions) (fair : MakeFairly f) where
  run_promised : (d : Data) (b : Bundle) → bundle_read f d ≡ Some b → (status : Status) (text : Text) → IsAccepted b.submission → PrintsRun f b status text → PromisesRun f b status text
  run_promised d b is_read status text accepted p =
      let (es, end, run, is, lines) = p in
      (es, end, headline (course_of f b) es end (bundles f d b fair is_read accepted) fair run, is, lines)

  promised_of : (d : Data) (b : Bundle) → bundle_read f d ≡ Some b → (status : Status) (text : Text) → Prints f (Some b) status text → Promises f (Some b) status text
  promised_of d b is_read is_refused text p = p
  promised_of d b is_read is_unreadable text p = p
  promised_of d b is_read is_answered text p = run_promised d b is_read is_answered text p.0 p.1
  promised_of d b is_read is_stopped text p = run_promised d b is_read is_stopped text p.0 p.1

  pub printed_promised : (bytes : List ℕ) (o : Option Bundle) → input_read f bytes ≡ o → (status : Status) (text : Text) → Prints f o status text → Promises f o status text
  printed_promised bytes None e status text p = p
  printed_promised bytes (Some b) e status text p = let r = bundle_of f bytes b e in promised_of r.0 b r.1 status text p
