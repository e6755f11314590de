-- Which truth value a value is.
-- Rule: partial evaluation (docs/RULES.md).
use Rattle.std.specs.Prelude.{◌≡◌, Bool, false, Result, Ok, Err}
use Rattle.cedar_expr_model.specs.Made.{Made, made_prim}
use Rattle.cedar_expr_model.specs.Value.{truth}
use Rattle.cedar_evaluator_model.specs.Scope.{Stop, Left, stopped}
use Rattle.cedar_evaluator_model.specs.Steps.{picks}
use Rattle.cedar_evaluator_errors.specs.Outcomes.{is_memory, stop_or}
use Rattle.cedar_evaluator_errors.specs.declared.err.EvaluationError.{EvaluationError}

-- Which truth value it is, or the error that it is none. Out of memory says nothing.
abbrev pub IsTruth : Made → Result Bool EvaluationError → Type 0
IsTruth m (Ok b) = m ≡ made_prim (truth b)
IsTruth m (Err e) = (x y : Left) (other : Stop) → is_memory e ≡ false → picks x y m ≡ stopped (stop_or other e)
