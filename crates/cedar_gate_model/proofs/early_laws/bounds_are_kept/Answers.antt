use Rattle.cedar_gate_model.proofs.Runs.Bounding.{given_bounds_hold, bounds_owed, bounds_are_reasons, bounds_kept}
use Rattle.cedar_gate_model.proofs.early_laws.bounds_are_kept.Goals as goal

pub returns-clause-given : goal.returns-clause-given
returns-clause-given c = given_bounds_hold

pub returns-clause-owed : goal.returns-clause-owed
returns-clause-owed c = λ k s store proper start known all. bounds_owed k proper s start all store known

pub returns-clause-reasons : goal.returns-clause-reasons
returns-clause-reasons c = λ k s store proper start known all holds. bounds_are_reasons k proper s start all store known holds

pub returns-clause-kept : goal.returns-clause-kept
returns-clause-kept c = bounds_kept
