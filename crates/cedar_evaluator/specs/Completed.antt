-- What a response says in the completions of what is known, and which decision is owed.
-- Rule: partial responses; completions (docs/RULES.md).
use Rattle.std.specs.Prelude.{◌≡◌, false, List, Contains, Option, Some}
use Rattle.cedar_store_model.specs.Answer.{Decision, allow, deny, IsSatisfied, decision_of, reasons_of}
use Rattle.cedar_store_model.specs.Policy.{Policy, permit, forbid}
use Rattle.cedar_store_model.specs.World.{World}
use Rattle.cedar_evaluator_model.specs.Laws.{IsUnsatisfied}
use Rattle.cedar_evaluator_model.specs.Members.{Bounds, bounds_in_session, decision, met_limit}
use Rattle.cedar_evaluator_model.specs.OfLaws.Calls.{Agrees}
use Rattle.cedar_evaluator_model.specs.OfLaws.Completing.{Completes}
use Rattle.cedar_evaluator_model.specs.OfLaws.WellMade.{AllRepresented}
use Rattle.cedar_evaluator_model.specs.Response.{Response}
use Rattle.cedar_evaluator_model.specs.ResponseLaws.{AreAmong, FitConditions, IsKept}
use Rattle.cedar_evaluator_model.specs.Scope.{Scope}

-- In this world everything is known, and it is as the scope says; the unknowns of the policies fit their annotations there. The scope's
-- calls answer as its table does, and of its extension values each is what its call gives.
pub record IsCompletionFor (w : World) (s : Scope) (ps : List Policy) : Type 0 where
  pub agrees : Agrees s
  pub represented : AllRepresented s
  pub completes : Completes w s
  pub fits : FitConditions w ps

-- In this world, where no policy met the limit: a decision of the response is the decision there; what must determine it is among the
-- reasons there, and these are among what may; and what is left of a policy is satisfied exactly where the policy is.
pub record HoldsIn (w : World) (ps : List Policy) (r : Response) : Type 0 where
  pub decides : met_limit r ≡ false → (d : Decision) → decision r ≡ Some d → d ≡ decision_of w ps
  pub bounds : (b : Bounds) → bounds_in_session ps r ≡ Some b → AreAmong b.must (reasons_of w ps) × AreAmong (reasons_of w ps) b.may
  pub keeps : met_limit r ≡ false → (p : Policy) → Contains ps p → IsKept w r p

-- The decision is given where what is known, as this world, forces it: by a satisfied forbid; by a satisfied permit, no forbid being
-- satisfied; by no permit being satisfied.
pub record IsForced (w : World) (ps : List Policy) (o : Option Decision) : Type 0 where
  pub by_forbid : (p : Policy) → Contains ps p → p.effect ≡ forbid → IsSatisfied w p → o ≡ Some deny
  pub by_permit : ((q : Policy) → Contains ps q → q.effect ≡ forbid → IsUnsatisfied w q) → (p : Policy) → Contains ps p → p.effect ≡ permit → IsSatisfied w p → o ≡ Some allow
  pub by_no_permit : ((p : Policy) → Contains ps p → p.effect ≡ permit → IsUnsatisfied w p) → o ≡ Some deny
