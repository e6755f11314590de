use Rattle.cedar_gate_model.proofs.Runs.Alike.{outside_says_nothing, outside_runs_stay}
use Rattle.cedar_gate_model.proofs.Runs.Answering.{answer_is_loaded, errors_are_expected}
use Rattle.cedar_gate_model.proofs.Runs.Deciding.{answer_is}
use Rattle.cedar_gate_model.proofs.run_laws.answers_need_the_slice_alone.Goals as goal

pub returns-clause-whole : goal.returns-clause-whole
returns-clause-whole c = answer_is

pub returns-clause-loaded : goal.returns-clause-loaded
returns-clause-loaded c = λ k es a proper run. answer_is_loaded k proper es a run

pub returns-clause-errors : goal.returns-clause-errors
returns-clause-errors c = λ k es a e proper run. errors_are_expected k proper es a run e

pub returns-clause-outside : goal.returns-clause-outside
returns-clause-outside c = λ k store es fs a b proper same. outside_says_nothing k store proper same es fs a b

pub returns-clause-stays : goal.returns-clause-stays
returns-clause-stays c = λ k store es a proper same. outside_runs_stay k store proper same es a
