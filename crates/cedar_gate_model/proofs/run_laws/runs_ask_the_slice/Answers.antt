use Rattle.cedar_gate_model.specs.Runs.{MayDecide}
use Rattle.cedar_gate_model.proofs.Runs.Asking.{runs_ask_once, runs_ask_in_the_slice, runs_ask_the_slice, runs_have_few_rounds}
use Rattle.cedar_gate_model.proofs.run_laws.runs_ask_the_slice.Goals as goal

pub returns-clause-once : goal.returns-clause-once
returns-clause-once c = λ x ps. runs_ask_once (MayDecide x ps) x ps

pub returns-clause-within : goal.returns-clause-within
returns-clause-within c = λ x ps. runs_ask_in_the_slice (MayDecide x ps) x ps

pub returns-clause-exact : goal.returns-clause-exact
returns-clause-exact c = λ x ps. runs_ask_the_slice (MayDecide x ps) x ps

pub returns-clause-few : goal.returns-clause-few
returns-clause-few c = λ x ps. runs_have_few_rounds (MayDecide x ps) x ps
