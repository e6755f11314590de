-- What the laws of partial responses say of the completions of a scope.
-- Rule: partial responses; completions (docs/RULES.md).
use Rattle.std.specs.Prelude.{◌≡◌, ◌↔◌, ℕ, List, All, Contains, Some, true, false}
use Rattle.cedar_expr_model.specs.Value.{truth}
use Rattle.cedar_expr_model.specs.ListLaws.{AreDistinct}
use Rattle.cedar_expr_model.specs.Made.{made_prim}
use Rattle.cedar_store_model.specs.World.{World}
use Rattle.cedar_store_model.specs.Policy.{Policy, no_bindings, condition}
use Rattle.cedar_store_model.specs.Answer.{Decision, with_slots, IsSatisfied, ids, decision_of, reasons_of}
use Rattle.cedar_store_model.specs.AnswerLaws.{Holds}
use Rattle.cedar_evaluator_model.specs.Scope.{Scope, fault, limit, Left, value_left, residual, stopped}
use Rattle.cedar_evaluator_model.specs.OfLaws.Calls.{Agrees}
use Rattle.cedar_evaluator_model.specs.OfLaws.WellMade.{AllMadeWell}
use Rattle.cedar_evaluator_model.specs.Completion.{FitsAnnotations}
use Rattle.cedar_evaluator_model.specs.OfLaws.Completing.{Completes}
use Rattle.cedar_evaluator_model.specs.Response.{Response, verdict, response_of}
use Rattle.cedar_evaluator_model.specs.Members.{get, met_limit, decision_in_session, Bounds, bounds_in_session}

-- the annotations of all conditions fit
abbrev pub FitConditions : World → List Policy → Type 0
FitConditions w ps = All (λ p. FitsAnnotations w (condition p)) ps

-- What a verdict says of a policy: true that it is satisfied, any other value and an error that it isn't, and a residual that it is
-- exactly where the residual means true, without slots. At the limit nothing is said.
abbrev pub Says : World → Policy → Left → Type 0
Says w p (value_left (made_prim (truth true))) = IsSatisfied w p
Says w p (value_left m) = IsSatisfied w p → ⊥
Says w p (residual r) = IsSatisfied w p ↔ Holds (with_slots w no_bindings) r
Says w p (stopped (fault f)) = IsSatisfied w p → ⊥
Says w p (stopped limit) = Unit {0}

-- In every completion that fits the annotations of a policy its verdict says what is so,
abbrev pub VerdictsHold : Type 0
VerdictsHold = (s : Scope) → Agrees s → AllMadeWell s → (n : ℕ) (p : Policy) (w : World) → Completes w s → FitsAnnotations w (condition p) → Says w p (verdict s n p)

-- and in every completion that fits those of all policies a decision of a session is the decision there.
abbrev pub Given : Type 0
Given =
    (s : Scope) → Agrees s → AllMadeWell s → (n : ℕ) (ps : List Policy) (d : Decision) → decision_in_session (response_of s n ps) ≡ Some d → (w : World) → Completes w s → FitConditions w ps
    → d ≡ decision_of w ps

-- each of the first stands among the second
abbrev pub AreAmong : {A : Type 0} → List A → List A → Type 0
AreAmong {A} xs ys = (x : A) → Contains xs x → Contains ys x

-- What must determine the decision is among the reasons there, and the reasons are among what may.
abbrev pub BoundsHold : Type 0
BoundsHold =
    (s : Scope) → Agrees s → AllMadeWell s → (n : ℕ) (ps : List Policy) (b : Bounds) → bounds_in_session ps (response_of s n ps) ≡ Some b → (w : World) → Completes w s → FitConditions w ps
    → AreAmong b.must (reasons_of w ps) × AreAmong (reasons_of w ps) b.may

-- The response has a policy of the same id and effect, which is satisfied exactly where the policy is.
abbrev pub IsKept : World → Response → Policy → Type 0
IsKept w r p = (q : Policy) × (get r p.id ≡ Some q) × (q.id ≡ p.id) × (q.effect ≡ p.effect) × (IsSatisfied w p ↔ IsSatisfied w q)

-- Where no policy met the limit and the ids are distinct, so it is with each policy.
abbrev pub KeepsSatisfied : Type 0
KeepsSatisfied =
    (s : Scope) → Agrees s → AllMadeWell s → (n : ℕ) (ps : List Policy) → AreDistinct (ids ps) → met_limit (response_of s n ps) ≡ false → (w : World) → Completes w s → FitConditions w ps
    → (p : Policy) → Contains ps p → IsKept w (response_of s n ps) p
