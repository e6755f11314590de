use Rattle.std.proofs.Common.{refl}
use Rattle.cedar_evaluator_model.specs.ReauthorizeLaws.{FitsStep}
use Rattle.cedar_evaluator_model.specs.WorkedResiduals.{ok_world, ok_step, ok_again}
use Rattle.cedar_evaluator_model.proofs.Residuals.Worked.{completed_there, agrees, made, binds}
use Rattle.cedar_evaluator_model.proofs.worked_residuals.worked_chain.Goals as goal

step : FitsStep ok_world ok_step
step = record { agrees = agrees; made = made; completes = completed_there; binds = binds }

pub returns-clause-step : goal.returns-clause-step
returns-clause-step c = step

pub returns-clause-chain : goal.returns-clause-chain
returns-clause-chain c = (ok_again, step, refl, refl, refl)
