use Rattle.cedar_gate_model.proofs.Doing.{loaded_nothing, loaded_more, loaded_finishes}
use Rattle.cedar_gate_model.proofs.did_laws.rounds_go_on.Goals as goal

pub returns-clause-nothing : goal.returns-clause-nothing
returns-clause-nothing c = loaded_nothing

pub returns-clause-more : goal.returns-clause-more
returns-clause-more c = loaded_more

pub returns-clause-finishes : goal.returns-clause-finishes
returns-clause-finishes c = loaded_finishes
