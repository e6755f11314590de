use Rattle.std.specs.Prelude.{codes, Some}
use Rattle.std.proofs.Common.{◌≡◌}
use Rattle.cedar_expr_model.specs.Tree.{bool_core, long_core, unknown, both}
use Rattle.cedar_evaluator_model.specs.Worked.{unknown_u}
use Rattle.cedar_evaluator_model.specs.WorkedCompletions.{completed}
use Rattle.cedar_evaluator_model.proofs.Named.{fits_in}
use Rattle.cedar_evaluator_model.proofs.worked_completions.worked_annotations.Goals as goal

-- the second `u` is no whole number
pub returns-clause-misfit : goal.returns-clause-misfit
returns-clause-misfit c h = let k : long_core ≡ bool_core = (fits_in completed (both unknown_u (unknown (codes "u") (Some long_core))) h).1 in cc
