-- What is left of a policy, in the model.
-- Rule: partial responses (docs/RULES.md).
use Rattle.std.specs.Prelude.{◌≡◌, true, false}
use Rattle.cedar_expr_model.specs.Made.{made_prim}
use Rattle.cedar_expr_model.specs.Tree.{Tree}
use Rattle.cedar_expr_model.specs.Value.{truth}
use Rattle.cedar_expr_trees.specs.Trees.{tree_of}
use Rattle.cedar_evaluator_model.specs.Scope.{limit, Left, value_left, residual, stopped}
use Rattle.cedar_evaluator_model.specs.Response.{stops}
use Rattle.cedar_evaluator_errors.specs.Outcomes.{stop_or, cause_of}
use Rattle.cedar_evaluator.specs.declared.verdicts.Verdict.{Verdict}
use Rattle.cedar_evaluator.specs.declared.verdicts.Verdict.TheVariants.{True, False, Residual, Erred}

abbrev pub left_seen : Verdict → Left
left_seen True = value_left (made_prim (truth true))
left_seen False = value_left (made_prim (truth false))
left_seen (Residual e) = residual (tree_of e)
left_seen (Erred e) = stopped (stop_or limit e)

-- an error reports why the evaluation stopped
abbrev pub TellsStop : Verdict → Type 0
TellsStop (Erred e) = cause_of e ≡ stops (stop_or limit e)
TellsStop v = Unit {0}

-- what is left, with a residual changed by this function; a value and a stop stay
abbrev pub with_residual : (Tree → Tree) → Left → Left
with_residual f (residual r) = residual (f r)
with_residual f (value_left m) = value_left m
with_residual f (stopped s) = stopped s

-- This is left.
pub record IsLeft (l : Left) (v : Verdict) : Type 0 where
  pub seen : l ≡ left_seen v
  pub tells : TellsStop v
