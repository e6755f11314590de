use Rattle.std.proofs.Common.{subst}
use Rattle.std.specs.Prelude.{Ok}
use Rattle.cedar_evaluator_core.specs.Evaluators.{IsVerdict}
use Rattle.cedar_evaluator.proofs.Told.{told_residual}
use Rattle.cedar_evaluator.proofs.verdicts.kept.Goals as goal

pub returns-in-Left : goal.returns-in-Left
returns-in-Left c = λ l h. c.settled.ensures _ l (subst (λ x. IsVerdict l (Ok x)) c.in-Left.is h)

pub returns-in_ok-bound-in-Right : goal.returns-in_ok-bound-in-Right
returns-in_ok-bound-in-Right c = λ l h. told_residual _ l c.in-Right.e _ (subst (λ x. IsVerdict l (Ok x)) c.in-Right.is h) c.in_ok-bound-in-Right.ensures
