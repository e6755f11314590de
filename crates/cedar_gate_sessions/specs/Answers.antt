-- The answer that evaluations leave, where each residual counts as an error.
-- Rule: the answer; partial responses (docs/RULES.md).
use Rattle.std.specs.Prelude.{ℕ, List, Option, Some, None}
use Rattle.std.specs.List.{filter_map}
use Rattle.cedar_expr_model.specs.Name.{Text}
use Rattle.cedar_store_model.specs.Policy as model
use Rattle.cedar_store_model.specs.Policy.{condition}
use Rattle.cedar_store_model.specs.Answer.{ids, decided}
use Rattle.cedar_evaluator_model.specs.Scope.{Scope, Left, residual, stopped}
use Rattle.cedar_evaluator_model.specs.Steps.{on_value, truth_wanted}
use Rattle.cedar_evaluator_model.specs.Evaluation.{evaluated}
use Rattle.cedar_evaluator_model.specs.Response.{ResponseError, stops, no_value, Response, with_bindings, response_of}
use Rattle.cedar_evaluator_model.specs.Members.{Concrete, if_none, satisfied_permits, satisfied_forbids}

-- what is left of a policy's condition, of which a truth value is wanted
abbrev pub asked : Scope → ℕ → model.Policy → Left
asked s n p = on_value (evaluated (with_bindings s p.bindings) n (condition p)) truth_wanted residual

-- the error of a policy of which this is left
abbrev pub if_erring : model.Policy → Left → Option ResponseError
if_erring p (residual r) = Some (record { id = p.id; cause = no_value r })
if_erring p (stopped s) = Some (record { id = p.id; cause = stops s })
if_erring p l = None

abbrev pub errors_left : Scope → ℕ → List model.Policy → List ResponseError
errors_left s n ps = filter_map (λ p. if_erring p (asked s n p)) ps

-- the ids of the satisfied forbids if there is one, else of the satisfied permits
abbrev pub reasons_left : Response → List Text
reasons_left r = ids (if_none r.true_forbids (satisfied_permits r) (satisfied_forbids r))

-- The answer: the decision by the policies that are satisfied, their ids, and the errors in policy order.
abbrev pub answered : Scope → ℕ → List model.Policy → Concrete
answered s n ps = record { decision = decided (response_of s n ps).true_permits (response_of s n ps).true_forbids; reasons = reasons_left (response_of s n ps); errors = errors_left s n ps }
