-- What the laws of partial evaluation say.
-- Rule: partial evaluation; partial responses; completions (docs/RULES.md).
use Rattle.std.specs.Prelude.{◌≡◌, ◌↔◌, ◌≤◌, ℕ, suc, true, false, List, [], map, All, Contains, Some, None}
use Rattle.cedar_expr_model.specs.Name.{Text}
use Rattle.cedar_expr_model.specs.Value.{Literal, V, truth_value}
use Rattle.cedar_expr_model.specs.Tree.{Tree, lit, nesting}
use Rattle.cedar_expr_model.specs.Made.{Made, made_prim, bare, written}
use Rattle.cedar_expr_model.specs.Table.{Table, all_typed}
use Rattle.cedar_expr_model.specs.OfLaws.Fair.{IsFair}
use Rattle.cedar_store_model.specs.Outcome.{Res, val}
use Rattle.cedar_store_model.specs.World.{World}
use Rattle.cedar_store_model.specs.Meaning.{Means}
use Rattle.cedar_store_model.specs.Laws.{IsGrounded}
use Rattle.cedar_store_model.specs.OfLaws.Extends.{Extends}
use Rattle.cedar_store_model.specs.Policy.{Policy, permit, forbid, condition}
use Rattle.cedar_store_model.specs.Answer.{allow, deny, PolicyError, Answer, with_slots, IsSatisfied, answer_of, decision_of}
use Rattle.cedar_evaluator_model.specs.Scope.{Scope, fault, limit, value_left, residual, stopped}
use Rattle.cedar_evaluator_model.specs.OfLaws.Calls.{Agrees}
use Rattle.cedar_evaluator_model.specs.Evaluation.{evaluated}
use Rattle.cedar_evaluator_model.specs.Known.{known_world}
use Rattle.cedar_evaluator_model.specs.OfLaws.Whole.{NothingUnknown, AllLoaded, AllBoundTo, LeavesNothing}
use Rattle.cedar_evaluator_model.specs.OfLaws.WellMade.{IsWellMade, AllMadeWell}
use Rattle.cedar_evaluator_model.specs.Completion.{FitsAnnotations}
use Rattle.cedar_evaluator_model.specs.OfLaws.Completing.{Completes}
use Rattle.cedar_evaluator_model.specs.Response.{stops, PartialRequest, Response, with_bindings, response_of}
use Rattle.cedar_evaluator_model.specs.Reauthorize.{makes_it, request_bound, resumed, reauthorized}
use Rattle.cedar_expr_model.specs.Substitution.{Bindings}
use Rattle.cedar_evaluator_model.specs.Members.{all_residuals, Concrete, concretize, met_limit, decision_in_session, nontrivial_residuals}
use Rattle.cedar_evaluator_model.specs.OfLaws.Standing.{StandsInAll, IsOutcome, LeavesUnbound, Owed, NoLimit}

-- at limit 0 all stops at the limit, and a literal within the limit is its value
abbrev pub LimitStops : Type 0
LimitStops = (s : Scope) (t : Tree) → evaluated s 0 t ≡ stopped limit

abbrev pub LiteralsStand : Type 0
LiteralsStand = (s : Scope) (n : ℕ) (p : Literal) → evaluated s (suc n) (lit p) ≡ value_left (made_prim p)

-- Outcomes are owed: whatever else is unknown, where what is known gives an expression an outcome that outcome is left. The calls
-- answer as the table does, and unknowns with values fit their annotations.
abbrev pub OutcomesAreOwed : Type 0
OutcomesAreOwed = (s : Scope) → Agrees s → LeavesUnbound s → (n : ℕ) (t : Tree) → FitsAnnotations (known_world s) t → Owed s n t

-- where no unknown has a value nothing is asked of annotations
abbrev pub OwedWithoutValues : Type 0
OwedWithoutValues = (s : Scope) → Agrees s → ((x : Text) → s.values x ≡ None) → (n : ℕ) (t : Tree) → Owed s n t

-- At every limit: where it isn't met, what is owed is left, however deep the expression is.
abbrev pub OwedUnlessLimit : Type 0
OwedUnlessLimit = (s : Scope) → Agrees s → LeavesUnbound s → (n : ℕ) (t : Tree) → FitsAnnotations (known_world s) t → NoLimit s n t → (r : Res V) → Means (known_world s) t r → IsOutcome r (evaluated s n t)

-- There every larger limit leaves the same. In general it doesn't: what is evaluated in best effort may meet the limit unseen.
abbrev pub LargerLimitsKeep : Type 0
LargerLimitsKeep = (s : Scope) → Agrees s → LeavesUnbound s → (n m : ℕ) (t : Tree) → FitsAnnotations (known_world s) t → IsGrounded (known_world s) t → NoLimit s n t → n ≤ m → evaluated s m t ≡ evaluated s n t

-- the expression means an outcome, and exactly what it means is left
pub record IsExact (s : Scope) (n : ℕ) (t : Tree) : Type 0 where
  pub grounded : IsGrounded (known_world s) t
  pub exact : (r : Res V) → Means (known_world s) t r ↔ IsOutcome r (evaluated s n t)

-- Where nothing is unknown, everything is loaded and each unknown has a value that fits, evaluation within the limit is the meaning.
abbrev pub EvaluationIsTheMeaning : Type 0
EvaluationIsTheMeaning = (s : Scope) → Agrees s → NothingUnknown s → AllLoaded s → (n : ℕ) (t : Tree) → AllBoundTo s t → nesting t ≤ n → IsExact s n t

-- and no residual is left
abbrev pub NoResidualIsLeft : Type 0
NoResidualIsLeft = (s : Scope) → Agrees s → NothingUnknown s → AllLoaded s → (n : ℕ) (t : Tree) → AllBoundTo s t → nesting t ≤ n → (r : Tree) → evaluated s n t ≡ residual r → ⊥

-- Where nothing is unknown, though entities may not be loaded, no evaluation within the limit meets it.
abbrev pub NoLimitIsMet : Type 0
NoLimitIsMet = (s : Scope) → Agrees s → NothingUnknown s → (n : ℕ) (t : Tree) → AllBoundTo s t → nesting t ≤ n → NoLimit s n t

-- The expression that a well-made value is written as means the value, and evaluates within the limit to an equal one.
abbrev pub WrittenMeansTheValue : Type 0
WrittenMeansTheValue = (w : World) (m : Made) → IsWellMade w.table m → Means w (written m) (val (bare m))

abbrev pub WrittenEvaluates : Type 0
WrittenEvaluates = (s : Scope) → Agrees s → LeavesUnbound s → (n : ℕ) (m : Made) → IsWellMade s.table m → nesting (written m) ≤ n → IsOutcome (val (bare m)) (evaluated s n (written m))

-- a fair table of which each function has a result type leaves no unknown
abbrev pub TypedTablesLeaveNothing : Type 0
TypedTablesLeaveNothing = (x : Table) → IsFair x → all_typed x ≡ true → LeavesNothing x

-- a completion knows all that the scope knows as values
abbrev pub CompletionsExtend : Type 0
CompletionsExtend = (w : World) (s : Scope) → Completes w s → Extends (known_world s) w

-- each unknown of the policy's condition has a value that fits
abbrev pub IsBound : Scope → Policy → Type 0
IsBound s p = AllBoundTo (with_bindings s p.bindings) (condition p)

-- and the condition nests within the limit
abbrev pub WithinLimit : Scope → ℕ → Policy → Type 0
WithinLimit s n p = IsBound s p × nesting (condition p) ≤ n

-- where nothing is unknown, though entities may not be loaded, no policy within the limit meets it
abbrev pub NoPolicyMeetsLimit : Type 0
NoPolicyMeetsLimit = (s : Scope) → Agrees s → NothingUnknown s → (n : ℕ) (ps : List Policy) → All (WithinLimit s n) ps → met_limit (response_of s n ps) ≡ false

-- an answer with the kinds of errors as a response has them
abbrev pub as_concrete : Answer → Concrete
as_concrete a = record { decision = a.decision; reasons = a.reasons; errors = map (λ (e : PolicyError). record { id = e.id; cause = stops (fault e.fault) }) a.errors }

-- Where nothing is unknown and everything is loaded, and no policy met the limit, the response is the answer in the world of what is
-- known: its decision, reasons and errors.
abbrev pub ResponseIsTheAnswer : Type 0
ResponseIsTheAnswer = (s : Scope) → Agrees s → NothingUnknown s → AllLoaded s → (n : ℕ) (ps : List Policy) → All (IsBound s) ps → met_limit (response_of s n ps) ≡ false → concretize (response_of s n ps) ≡ as_concrete (answer_of (known_world s) ps)

abbrev pub DecisionIsGiven : Type 0
DecisionIsGiven = (s : Scope) → Agrees s → NothingUnknown s → AllLoaded s → (n : ℕ) (ps : List Policy) → All (IsBound s) ps → met_limit (response_of s n ps) ≡ false → decision_in_session (response_of s n ps) ≡ Some (decision_of (known_world s) ps)

-- there no policy is residual, at any limit
abbrev pub NoPolicyIsResidual : Type 0
NoPolicyIsResidual = (s : Scope) → Agrees s → NothingUnknown s → AllLoaded s → (n : ℕ) (ps : List Policy) → All (IsBound s) ps → nontrivial_residuals (response_of s n ps) ≡ []

-- Reauthorizing under values with which nothing is unknown any more, over a store where everything is loaded: no policy is residual,
-- and where none met the limit the response is the answer to what was left of the policies.
abbrev pub ReauthorizingLeavesNone : Type 0
ReauthorizingLeavesNone =
    (s : Scope) (n : ℕ) (env : Bindings) (r q : Response) (b : PartialRequest) → request_bound s env r.request ≡ makes_it b → reauthorized s n env r ≡ makes_it q → Agrees s → NothingUnknown (resumed s env b) → AllLoaded s
    → All (IsBound (resumed s env b)) (all_residuals r) → nontrivial_residuals q ≡ []

abbrev pub ReauthorizingAnswers : Type 0
ReauthorizingAnswers =
    (s : Scope) (n : ℕ) (env : Bindings) (r q : Response) (b : PartialRequest) → request_bound s env r.request ≡ makes_it b → reauthorized s n env r ≡ makes_it q → Agrees s → NothingUnknown (resumed s env b) → AllLoaded s
    → All (IsBound (resumed s env b)) (all_residuals r) → met_limit q ≡ false → concretize q ≡ as_concrete (answer_of (known_world (resumed s env b)) (all_residuals r))

-- what is known satisfies the policy, or gives it an outcome that doesn't
abbrev pub IsUnsatisfied : World → Policy → Type 0
IsUnsatisfied w p = (r : Res V) × Means (with_slots w p.bindings) (condition p) r × (r ≡ val (truth_value true) → ⊥)

-- The policies of a session that is ready for a decision: the calls answer as the table does, what calls leave is unbound, values fit
-- their annotations, and no policy met the limit.
pub record IsReady (s : Scope) (n : ℕ) (ps : List Policy) : Type 0 where
  pub agrees : Agrees s
  pub unbound : LeavesUnbound s
  pub fits : All (λ p. FitsAnnotations (known_world s) (condition p)) ps
  pub within : met_limit (response_of s n ps) ≡ false

-- A decision is owed, whatever else is unknown, where what is known forces it: by a satisfied forbid;
abbrev pub ForbidForces : Type 0
ForbidForces = (s : Scope) (n : ℕ) (ps : List Policy) → IsReady s n ps → (p : Policy) → Contains ps p → p.effect ≡ forbid → IsSatisfied (known_world s) p → decision_in_session (response_of s n ps) ≡ Some deny

-- by all forbids, none satisfied, and a satisfied permit;
abbrev pub PermitForces : Type 0
PermitForces =
    (s : Scope) (n : ℕ) (ps : List Policy) → IsReady s n ps → ((q : Policy) → Contains ps q → q.effect ≡ forbid → IsUnsatisfied (known_world s) q) → (p : Policy) → Contains ps p → p.effect ≡ permit → IsSatisfied (known_world s) p
    → decision_in_session (response_of s n ps) ≡ Some allow

-- by all permits, none satisfied.
abbrev pub NoPermitForces : Type 0
NoPermitForces = (s : Scope) (n : ℕ) (ps : List Policy) → IsReady s n ps → ((p : Policy) → Contains ps p → p.effect ≡ permit → IsUnsatisfied (known_world s) p) → decision_in_session (response_of s n ps) ≡ Some deny

-- What evaluation leaves stands for the expression in every completion that fits the annotations, and the unknowns of a residual fit too.
abbrev pub ResidualsStand : Type 0
ResidualsStand = (s : Scope) → Agrees s → AllMadeWell s → (n : ℕ) (t : Tree) → StandsInAll s t (evaluated s n t)

abbrev pub ResidualsFit : Type 0
ResidualsFit = (s : Scope) → Agrees s → AllMadeWell s → (n : ℕ) (t r : Tree) → evaluated s n t ≡ residual r → (w : World) → Completes w s → FitsAnnotations w t → FitsAnnotations w r
