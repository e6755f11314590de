-- What is left of the part of which a truth value is wanted.
-- Rule: partial evaluation (docs/RULES.md).
use Rattle.std.specs.Prelude.{◌≡◌, true, false, Err}
use Rattle.cedar_expr_model.specs.Tree.{Tree}
use Rattle.cedar_expr_trees.specs.Trees.{tree_of}
use Rattle.cedar_evaluator_model.specs.Scope.{Left, residual}
use Rattle.cedar_evaluator_model.specs.Steps.{on_value, picks, truth_left}
use Rattle.cedar_evaluator_errors.specs.Outcomes.{Leaves}
use Rattle.cedar_evaluator_core.specs.declared.after.Truth.{Truth}
use Rattle.cedar_evaluator_core.specs.declared.after.Truth.TheVariants as truth

-- What is left is this truth value, or this residual. Where it is neither, whatever a truth value would pick stops so.
abbrev pub IsTested : Left → Truth → Type 0
IsTested l truth.Holds = l ≡ truth_left true
IsTested l truth.Fails = l ≡ truth_left false
IsTested l (truth.Open r) = l ≡ residual (tree_of r)
IsTested l (truth.Stops e) = (x y : Left) (other : Tree → Left) → Leaves (on_value l (picks x y) other) (Err e)
