-- What the laws say of runs that differ in what doesn't matter for the answer.
-- Rule: runs; the answer; the slice; impossible policies (docs/RULES.md).
use Rattle.std.specs.Prelude.{◌≡◌, ◌++◌, ℕ, List, [], ◌∷◌, Contains, Option, Some, not}
use Rattle.std.specs.List.{filter}
use Rattle.std.specs.List.Sorted.{IsPermutation}
use Rattle.cedar_expr_model.specs.Name.{Text}
use Rattle.cedar_expr_model.specs.Uid.{Uid}
use Rattle.cedar_expr_model.specs.Made.{Made}
use Rattle.cedar_expr_model.specs.Value.{V}
use Rattle.cedar_store_model.specs.World.{World, Entity}
use Rattle.cedar_store_model.specs.Policy.{Policy}
use Rattle.cedar_store_model.specs.Answer.{Answer, answer_of, decision_of, reasons_of}
use Rattle.cedar_store_model.specs.AnswerLaws.{SameMembers}
use Rattle.cedar_schema_model.specs.BagLaws.{IsReordered}
use Rattle.cedar_schema_model.specs.Declarations.{Declarations, bag}
use Rattle.cedar_typechecker_model.specs.Verdicts.{RequestType, irrelevant_for}
use Rattle.cedar_gate_model.specs.Acceptance.{Submission, IsAccepted, schema_in, warnings_of}
use Rattle.cedar_typechecker_model.specs.Slice.{InSlice}
use Rattle.cedar_gate_model.specs.Transcript.{Step, Entry}
use Rattle.cedar_gate_model.specs.Session.{world_now}
use Rattle.cedar_gate_model.specs.Runs.{End, answered}
use Rattle.cedar_gate_model.specs.RunLaws.{bindings_in}
use Rattle.cedar_gate_model.specs.RunsAnswer.{Course, session_of, IsProper, IsRun, MayRun, end_world}

-- what is bound after these bindings, the last one first
abbrev pub bound_by : List (Text × Made) → List (Text × Made) → List (Text × Made)
bound_by bound [] = bound
bound_by bound (b ∷ bs) = bound_by (b ∷ bound) bs

-- The completed request over the whole store: with all that the steps bind.
abbrev pub course_world : Course → World
course_world c = world_now (session_of c) (record { bound = bound_by [] (bindings_in c.steps); asked = [] })

-- that is where each answered run ends
abbrev pub EndsAreTheCourses : Type 0
EndsAreTheCourses = (c : Course) (es : List Entry) (a : Answer) → MayRun c es (answered a) → end_world c es ≡ course_world c

-- the course with other steps, other policies, another level, another store
abbrev pub by_steps : Course → List Step → Course
by_steps c steps = record c { steps = steps }

abbrev pub with_policies : Submission → List Policy → Submission
with_policies b ps = record b { policies = ps }

abbrev pub by_policies : Course → List Policy → Course
by_policies c ps = record c { submission = with_policies c.submission ps }

abbrev pub at_level : Course → ℕ → Course
at_level c n = record c { submission = record c.submission { level = n } }

abbrev pub over_store : Course → (Uid → Option (Entity V)) → Course
over_store c store = record c { store = store }

-- Steps that bind the same, in any order among any loads and decisions, come to the same answer.
abbrev pub StepsMayMove : Type 0
StepsMayMove = (c : Course) (steps : List Step) (es fs : List Entry) (a b : Answer) → SameMembers (bindings_in c.steps) (bindings_in steps)
    → MayRun c es (answered a) → MayRun (by_steps c steps) fs (answered b) → a ≡ b

-- at every level the answer is the same
abbrev pub LevelsAnswerAlike : Type 0
LevelsAnswerAlike = (c : Course) (n : ℕ) (es fs : List Entry) (a b : Answer) → MayRun c es (answered a) → MayRun (at_level c n) fs (answered b) → a ≡ b

-- Policies in another order are accepted alike, and give the same decision, the same reasons and the same errors.
abbrev pub PoliciesMayMove : Type 0
PoliciesMayMove = (b : Submission) (qs : List Policy) → IsPermutation b.policies qs → IsAccepted b → IsAccepted (with_policies b qs)

abbrev pub MovedPoliciesAnswerAlike : Type 0
MovedPoliciesAnswerAlike = (c : Course) (qs : List Policy) (es fs : List Entry) (a b : Answer) → IsPermutation c.submission.policies qs
    → MayRun c es (answered a) → MayRun (by_policies c qs) fs (answered b) → (a.decision ≡ b.decision) × SameMembers a.reasons b.reasons × SameMembers a.errors b.errors

-- And what was answered by the ones is answered by the others, in the same run.
abbrev pub MovedPoliciesRun : Type 0
MovedPoliciesRun = (c : Course) (qs : List Policy) (es : List Entry) (a : Answer) → IsPermutation c.submission.policies qs
    → MayRun c es (answered a) → MayRun (by_policies c qs) es (answered (answer_of (end_world c es) qs))

-- Declarations in another order are accepted alike, and come to the same answer.
abbrev pub with_declarations : Submission → Declarations → Submission
with_declarations b d = record b { declarations = d }

abbrev pub by_declarations : Course → Declarations → Course
by_declarations c d = record c { submission = with_declarations c.submission d }

abbrev pub DeclarationsMayMove : Type 0
DeclarationsMayMove = (b : Submission) (d : Declarations) → IsReordered b.declarations d → IsAccepted b → IsAccepted (with_declarations b d)

-- a fragment may be split, wherever it stands
abbrev pub FragmentsMaySplit : Type 0
FragmentsMaySplit = (b : Submission) (before after : List Declarations) (d e : Declarations)
    → with_declarations b (bag (before ++ bag (d ∷ e ∷ []) ∷ after)) ≡ with_declarations b (bag (before ++ d ∷ e ∷ after))

abbrev pub MovedDeclarationsAnswerAlike : Type 0
MovedDeclarationsAnswerAlike = (c : Course) (d : Declarations) (es fs : List Entry) (a b : Answer) → IsAccepted c.submission → IsReordered c.submission.declarations d
    → MayRun c es (answered a) → MayRun (by_declarations c d) fs (answered b) → a ≡ b

-- And each run by the ones is a run by the others, with the same entries and the same end, a refused one too.
abbrev pub MovedDeclarationsRun : Type 0
MovedDeclarationsRun = (c : Course) (d : Declarations) (es : List Entry) (end : End) → IsAccepted c.submission → IsReordered c.submission.declarations d
    → MayRun c es end → MayRun (by_declarations c d) es end

-- So is each run that decides by evaluating in part.
abbrev pub MovedDeclarationsDecide : Type 0
MovedDeclarationsDecide = (c : Course) (d : Declarations) (es : List Entry) (end : End) → IsAccepted c.submission → IsReordered c.submission.declarations d
    → IsRun c es end → IsRun (by_declarations c d) es end

-- A store that has the same in the slice gives the same answer, whatever stands in it elsewhere.
abbrev pub OutsideSaysNothing : Type 0
OutsideSaysNothing = (c : Course) (store : Uid → Option (Entity V)) (es fs : List Entry) (a b : Answer) → IsProper c
    → ((u : Uid) → InSlice (schema_in c.submission) c.submission.level (course_world c) u → store u ≡ c.store u)
    → MayRun c es (answered a) → MayRun (over_store c store) fs (answered b) → a ≡ b

-- And what was answered over the one store is answered over the other: by the same run.
abbrev pub OutsideRunsStay : Type 0
OutsideRunsStay = (c : Course) (store : Uid → Option (Entity V)) (es : List Entry) (a : Answer) → IsProper c
    → ((u : Uid) → InSlice (schema_in c.submission) c.submission.level (course_world c) u → store u ≡ c.store u)
    → MayRun c es (answered a) → MayRun (over_store c store) es (answered a)

-- the request is of these types
pub record IsOfTypes (w : World) (r : RequestType) : Type 0 where
  pub principal : (u : Uid) → w.principal ≡ Some u → u.kind ≡ r.principal
  pub action : w.action ≡ Some r.action
  pub resource : (u : Uid) → w.resource ≡ Some u → u.kind ≡ r.resource

-- the policies that aren't irrelevant for them
abbrev pub kept_for : Submission → RequestType → List Policy
kept_for b r = filter (λ p. not (irrelevant_for (schema_in b) b.table r p)) b.policies

-- They alone give the same decision and the same reasons.
abbrev pub PrunedAnswersAlike : Type 0
PrunedAnswersAlike = (c : Course) (r : RequestType) (es : List Entry) (a : Answer) → IsProper c → MayRun c es (answered a) → IsOfTypes (course_world c) r
    → (decision_of (course_world c) (kept_for c.submission r) ≡ a.decision) × (reasons_of (course_world c) (kept_for c.submission r) ≡ a.reasons)

-- no policy that is warned of is a reason
abbrev pub WarnedAreNoReasons : Type 0
WarnedAreNoReasons = (c : Course) (es : List Entry) (a : Answer) (id : Text) → IsProper c → MayRun c es (answered a) → Contains (warnings_of c.submission) id → Contains a.reasons id → ⊥
