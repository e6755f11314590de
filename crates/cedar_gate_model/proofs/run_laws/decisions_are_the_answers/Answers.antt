use Rattle.cedar_gate_model.proofs.Runs.Opened.{deciding_states_are_opened}
use Rattle.cedar_gate_model.proofs.Runs.Scoped.{evaluated_decisions_hold}
use Rattle.cedar_gate_model.proofs.Runs.Deciding.{given_decisions}
use Rattle.cedar_gate_model.proofs.Runs.Forcing.{forced_decisions_are_given}
use Rattle.cedar_gate_model.proofs.Runs.Owing.{ready_decisions}
use Rattle.cedar_gate_model.proofs.run_laws.decisions_are_the_answers.Goals as goal

pub returns-clause-given : goal.returns-clause-given
returns-clause-given c = λ k es a d proper run m. given_decisions k proper es a run d m

pub returns-clause-owed : goal.returns-clause-owed
returns-clause-owed c = ready_decisions

pub returns-clause-forced : goal.returns-clause-forced
returns-clause-forced c = λ k s store proper same. forced_decisions_are_given k s store proper same

pub returns-clause-evaluated : goal.returns-clause-evaluated
returns-clause-evaluated c = evaluated_decisions_hold

pub returns-clause-opened : goal.returns-clause-opened
returns-clause-opened c = deciding_states_are_opened
