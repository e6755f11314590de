use Rattle.std.proofs.Common.{refl, inr}
use Rattle.std.specs.Prelude.{true}
use Rattle.cedar_expr_model.specs.Value.{truth_value}
use Rattle.cedar_store_model.specs.Outcome.{val, wrong_type}
use Rattle.cedar_store_model.proofs.Meaning.{means_outcome}
use Rattle.cedar_evaluator_model.specs.Worked.{unknown_a, false_tree}
use Rattle.cedar_evaluator_model.specs.WorkedCompletions.{completed}
use Rattle.cedar_expr_model.specs.Tree.{both}
use Rattle.cedar_evaluator_model.proofs.worked_completions.worked_standing.Goals as goal

-- it is a type error
pub returns-clause-other_error : goal.returns-clause-other_error
returns-clause-other_error c = (wrong_type, inr (_, refl, refl))

-- the unknown means true, and the residual false
pub returns-clause-unlike : goal.returns-clause-unlike
returns-clause-unlike c h = let m = means_outcome completed (both false_tree unknown_a) (val (truth_value true)) (h (val (truth_value true)) refl) in cc
