-- What a decision of a partial response says.
-- Rule: partial responses; completions (docs/RULES.md).
use Rattle.std.specs.Prelude.{◌≡◌, ℕ, List, All, Option, Some, false}
use Rattle.cedar_store_model.specs.Answer.{Decision, decision_of}
use Rattle.cedar_store_model.specs.Policy.{Policy}
use Rattle.cedar_store_model.specs.World.{World}
use Rattle.cedar_evaluator_model.specs.Known.{known_world}
use Rattle.cedar_evaluator_model.specs.Laws.{IsReady, WithinLimit}
use Rattle.cedar_evaluator_model.specs.Members.{met_limit}
use Rattle.cedar_evaluator_model.specs.OfLaws.Calls.{Agrees}
use Rattle.cedar_evaluator_model.specs.OfLaws.WellMade.{AllAreValues}
use Rattle.cedar_evaluator_model.specs.OfLaws.Whole.{AllLoaded, NothingUnknown}
use Rattle.cedar_evaluator_model.specs.Response.{Response, response_of}
use Rattle.cedar_evaluator_model.specs.Scope.{Scope}
use Rattle.cedar_evaluator.specs.Completed.{IsCompletionFor, IsForced}

-- Nothing is unknown in the scope and everything is loaded, its calls answer as its table does, and the policies are within the limit.
pub record IsClosedFor (s : Scope) (n : ℕ) (ps : List Policy) : Type 0 where
  pub agrees : Agrees s
  pub known : NothingUnknown s
  pub loaded : AllLoaded s
  pub within : All (WithinLimit s n) ps

-- Of a response to policies over a scope of values: in each completion that fits them a decision is the decision there, where no policy
-- met the limit. And one is owed where what is known forces it.
pub record IsDecision (r : Response) (o : Option Decision) : Type 0 where
  pub given : (s : Scope) (n : ℕ) (ps : List Policy) → r ≡ response_of s n ps → met_limit r ≡ false → AllAreValues s → (w : World) → IsCompletionFor w s ps → (d : Decision) → o ≡ Some d → d ≡ decision_of w ps
  pub owed : (s : Scope) (n : ℕ) (ps : List Policy) → r ≡ response_of s n ps → IsReady s n ps → IsForced (known_world s) ps o
