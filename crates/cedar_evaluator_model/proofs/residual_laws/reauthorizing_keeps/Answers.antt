use Rattle.cedar_evaluator_model.proofs.Residuals.Chains as chains
use Rattle.cedar_evaluator_model.proofs.residual_laws.reauthorizing_keeps.Goals as goal

pub returns-clause-first : goal.returns-clause-first
returns-clause-first c = chains.responses_are_completed

pub returns-clause-completes : goal.returns-clause-completes
returns-clause-completes c = chains.reauthorizing_completes

pub returns-clause-keeps : goal.returns-clause-keeps
returns-clause-keeps c = chains.reauthorizing_keeps

pub returns-clause-decides : goal.returns-clause-decides
returns-clause-decides c = chains.reauthorizing_decides
