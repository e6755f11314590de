use Rattle.cedar_evaluator_model.proofs.Residuals.Chains as chains
use Rattle.cedar_evaluator_model.proofs.residual_laws.chains_keep.Goals as goal

pub returns-clause-keep : goal.returns-clause-keep
returns-clause-keep c = chains.chains_keep

pub returns-clause-decide : goal.returns-clause-decide
returns-clause-decide c = chains.chains_decide

pub returns-clause-agree : goal.returns-clause-agree
returns-clause-agree c = chains.chains_agree
