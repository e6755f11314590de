use Rattle.cedar_evaluator_model.proofs.Written.{written_means, written_evaluates}
use Rattle.cedar_evaluator_model.proofs.laws.written_values_stand.Goals as goal

pub returns-clause-meaning : goal.returns-clause-meaning
returns-clause-meaning c = written_means

pub returns-clause-evaluation : goal.returns-clause-evaluation
returns-clause-evaluation c = written_evaluates
