use Rattle.cedar_store_model.proofs.Conditions.{satisfied-Decides}
use Rattle.cedar_store_model.proofs.Conditions.{satisfaction_is_kept}
use Rattle.cedar_store_model.proofs.laws.satisfaction_is_decided.Goals as goal

pub returns-clause-decides : goal.returns-clause-decides
returns-clause-decides c = satisfied-Decides

pub returns-clause-kept : goal.returns-clause-kept
returns-clause-kept c = satisfaction_is_kept
