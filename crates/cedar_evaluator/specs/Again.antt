-- What reauthorizing keeps, and what it decides.
-- Rule: reauthorizing; completions (docs/RULES.md).
use Rattle.std.specs.Prelude.{◌≡◌, [], All, Some, false, option_map, IfSome}
use Rattle.cedar_expr_model.specs.Made.{bare}
use Rattle.cedar_expr_model.specs.Name.{Text}
use Rattle.cedar_expr_model.specs.OfLaws.Represented.{IsRepresented}
use Rattle.cedar_store_model.specs.Answer.{Decision, answer_of, decision_of}
use Rattle.cedar_store_model.specs.OfLaws.Extends.{Keeps}
use Rattle.cedar_store_model.specs.Policy.{Policy}
use Rattle.cedar_store_model.specs.World.{World}
use Rattle.cedar_evaluator_model.specs.Known.{known_world}
use Rattle.cedar_evaluator_model.specs.Laws.{IsBound, as_concrete}
use Rattle.cedar_evaluator_model.specs.Members.{all_residuals, concretize, decision_in_session, get, met_limit, nontrivial_residuals}
use Rattle.cedar_evaluator_model.specs.OfLaws.Calls.{Agrees}
use Rattle.cedar_evaluator_model.specs.OfLaws.Completing.{Completes}
use Rattle.cedar_evaluator_model.specs.OfLaws.WellMade.{AllRepresented, IsContextRepresented}
use Rattle.cedar_evaluator_model.specs.OfLaws.Whole.{AllLoaded, NothingUnknown}
use Rattle.cedar_evaluator_model.specs.Reauthorize.{resumed}
use Rattle.cedar_evaluator_model.specs.ReauthorizeLaws.{MeansRequest, Step}
use Rattle.cedar_evaluator_model.specs.Response.{Response}
use Rattle.cedar_evaluator_model.specs.ResponseLaws.{FitConditions, IsKept}
use Rattle.cedar_evaluator_model.specs.Scope.{Scope}

-- the scope in which what is left is evaluated once more
abbrev pub scope_again : Step → Response → Scope
scope_again x q = resumed x.scope x.values q.request

-- In it nothing is unknown, everything is loaded, and what is left of the first response has values for its unknowns.
pub record KnowsAll (x : Step) (r q : Response) : Type 0 where
  pub agrees : Agrees x.scope
  pub known : NothingUnknown (scope_again x q)
  pub loaded : AllLoaded x.scope
  pub bound : All (IsBound (scope_again x q)) (all_residuals r)

-- The step fits the world: the calls of its scope answer as its table does, the world completes the scope, the values are what their names
-- mean there, and of the extension values each is what its call gives.
pub record FitsAgain (w : World) (x : Step) : Type 0 where
  pub agrees : Agrees x.scope
  pub represented : AllRepresented x.scope
  pub completes : Completes w x.scope
  pub means : (n : Text) → Keeps (option_map bare (x.values n)) (w.unknowns n)
  pub bound : (n : Text) → IfSome (x.values n) (IsRepresented w.table)

-- The world completes what a response leaves unknown: its request, of whose extension values each is what its call gives, and the annotations
-- of what is left of the policies fit.
pub record CompletesLeft (w : World) (r : Response) : Type 0 where
  pub request : MeansRequest w r.request
  pub represented : IsContextRepresented w.table r.request.context
  pub fits : FitConditions w (all_residuals r)

-- The second response is what the first becomes by this step. What completes the first and fits the step completes the second too; there
-- each policy is satisfied by the one exactly where it is by the other, and a decision is that of what was left of the policies. Where all
-- is known no residual stays, and the answer is that to what was left.
pub record IsAgain (x : Step) (r q : Response) : Type 0 where
  pub completes : (w : World) → FitsAgain w x → CompletesLeft w r → CompletesLeft w q
  pub keeps : (w : World) → FitsAgain w x → CompletesLeft w r → met_limit q ≡ false → (i : Text) (p : Policy) → get r i ≡ Some p → IsKept w q p
  pub decides : (w : World) → FitsAgain w x → CompletesLeft w r → (d : Decision) → decision_in_session q ≡ Some d → d ≡ decision_of w (all_residuals r)
  pub leaves_none : KnowsAll x r q → nontrivial_residuals q ≡ []
  pub answers : KnowsAll x r q → met_limit q ≡ false → concretize q ≡ as_concrete (answer_of (known_world (scope_again x q)) (all_residuals r))
