use Rattle.std.proofs.Common.{rules, refl}
use Rattle.cedar_evaluator_model.proofs.Residuals.Worked.{completed_there, agrees, made, fits}
use Rattle.cedar_evaluator_model.proofs.worked_residuals.worked_premises.Goals as goal

pub returns-clause-completes : goal.returns-clause-completes
returns-clause-completes c = completed_there

pub returns-clause-begins : goal.returns-clause-begins
returns-clause-begins c = record { agrees = agrees; made = made; completes = completed_there; fits = fits; distinct = search rules; within = refl }
