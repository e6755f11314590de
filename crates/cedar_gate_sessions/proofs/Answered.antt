-- What a session decides and answers by what it has loaded.
use Rattle.std.proofs.Common.{◌≡◌, ◌∙◌, List, [], ◌∷◌, inl, inr, ap}
use Rattle.std.specs.Prelude.{Option, Result, Ok, Err, IfOk}
use Rattle.cedar_expr_model.specs.Uid.{Uid}
use Rattle.cedar_expr_model.specs.Made.{Made}
use Rattle.cedar_store_model.specs.Answer.{Decision, answer_of}
use Rattle.cedar_store_model.specs.Policy.{Policy}
use Rattle.cedar_store_model.specs.World.{Found}
use Rattle.cedar_evaluator_model.specs.Known.{known_found}
use Rattle.cedar_evaluator_model.specs.Laws.{as_concrete}
use Rattle.cedar_evaluator_model.specs.Members.{Concrete, decision_in_session, Bounds, bounds_in_session}
use Rattle.cedar_expr_model.specs.ListLaws.{AreDistinct}
use Rattle.cedar_schema_model.specs.BagLaws.{HasTwice}
use Rattle.cedar_gate_model.specs.Early.{BoundsInPart}
use Rattle.cedar_evaluator_model.specs.Response.{response_of}
use Rattle.cedar_gate_sessions.specs.Answers.{answered}
use Rattle.cedar_gate_sessions.specs.Laws.{SessionsAnswer, Conform, loaded_store}
use Rattle.cedar_gate_model.specs.Runs.{DecidesInPart}
use Rattle.cedar_gate_model.specs.RunsAnswer.{Course, session_of, IsAdmitted, IsOpened, IsKnownStore}
use Rattle.cedar_gate_model.specs.Session.{Setup, State, scope_now, world_now, NothingIsWanted, AnswerRefusal, AnswerFault}
use Rattle.cedar_gate_sessions.proofs.Steady.{IsAlike, same_response, same_answered}

module _ (c : Course) (s : State) (store steadied : Uid → Found Made) (alike : (u : Uid) → IsAlike (store u) (steadied u)) (ps : List Policy) (is : ps ≡ c.submission.policies) where
  abbrev x : Setup
  x = session_of c

  -- what evaluating over the store decides it decides over the steady one
  decision_steady : (d : Option Decision) → d ≡ decision_in_session (response_of (scope_now x s store) x.limit ps) → d ≡ decision_in_session (response_of (scope_now x s steadied) x.limit c.submission.policies)
  decision_steady d e = e ∙ ap decision_in_session (same_response (scope_now x s store) steadied alike x.limit ps) ∙ ap (λ qs. decision_in_session (response_of (scope_now x s steadied) x.limit qs)) is

  -- so it decides in part, and may be given, where the steady store is what is known
  pub decision_in_part : IsKnownStore c s steadied → (d : Option Decision) → d ≡ decision_in_session (response_of (scope_now x s store) x.limit ps) → DecidesInPart x c.submission.policies s d
  decision_in_part known d e = (steadied, known, decision_steady d e)

  -- the bounds over the store are those of evaluating in part
  pub bounds_in_part : IsKnownStore c s steadied → (b : Option Bounds) → b ≡ bounds_in_session ps (response_of (scope_now x s store) x.limit ps) → BoundsInPart c s b
  bounds_in_part known b e =
      (steadied, known, e ∙ ap (bounds_in_session ps) (same_response (scope_now x s store) steadied alike x.limit ps) ∙ ap (λ qs. bounds_in_session qs (response_of (scope_now x s steadied) x.limit qs)) is)

  -- what it leaves is the answer, where the steady one is what was loaded
  pub answer_told : IsAdmitted c → IsOpened (session_of c) s → SessionsAnswer → Conform x s → NothingIsWanted x s → ((f : AnswerRefusal) → AnswerFault x s f → ⊥) → ((u : Uid) → known_found (steadied u) ≡ loaded_store x s u)
      → (r : Concrete) → r ≡ answered (scope_now x s store) x.limit ps → r ≡ as_concrete (answer_of (world_now x s) c.submission.policies)
  answer_told admitted opened law conform nothing fine known r e =
      e ∙ same_answered (scope_now x s store) steadied alike x.limit ps ∙ ap (λ qs. answered (scope_now x s steadied) x.limit qs) is ∙ law c s steadied admitted opened conform nothing fine known

-- what is there is so for each
pub ok_each : {A E X Y D : Type 0} (Z : X → Y → Type 0) (P : X → Y → A → Type 0) (r : Result A E) → ((x : X) (y : Y) → Z x y → D → IfOk r (P x y)) → IfOk r (λ a. (x : X) (y : Y) → Z x y → D → P x y a)
ok_each Z P (Ok a) h = h
ok_each Z P (Err e) h = tt

-- none twice
pub distinct_of : {X : Type 0} (xs : List X) → (HasTwice xs → ⊥) → AreDistinct xs
distinct_of [] h = tt
distinct_of (x ∷ xs) h = ((λ k. h (inl k)), distinct_of xs (λ k. h (inr k)))

-- what a course says of what is there it says of each
pub ok_in_course : {A E : Type 0} (At : Course → State → Type 0) (Is Good Fair : Course → Type 0) (P Q : Course → State → A → Type 0) (r : Result A E)
    → ((c : Course) (s : State) → At c s → Is c → Good c → IfOk r (P c s)) → ((c : Course) (s : State) (a : A) → At c s → Is c → Good c → Fair c → P c s a → Q c s a)
    → IfOk r (λ a. (c : Course) (s : State) → At c s → Is c → Good c → Fair c → Q c s a)
ok_in_course At Is Good Fair P Q (Ok a) h f = λ c s at is good fair. f c s a at is good fair (h c s at is good)
ok_in_course At Is Good Fair P Q (Err e) h f = tt
