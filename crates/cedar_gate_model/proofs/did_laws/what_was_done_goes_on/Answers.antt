use Rattle.cedar_gate_model.specs.Runs.{DecidesInPart}
use Rattle.cedar_gate_model.proofs.Doing.{nothing, more, follows}
use Rattle.cedar_gate_model.proofs.did_laws.what_was_done_goes_on.Goals as goal

pub returns-clause-nothing : goal.returns-clause-nothing
returns-clause-nothing c = λ x ps s. nothing (DecidesInPart x ps) x s

pub returns-clause-more : goal.returns-clause-more
returns-clause-more c = λ x ps. more (DecidesInPart x ps) x

pub returns-clause-follows : goal.returns-clause-follows
returns-clause-follows c = λ x ps. follows (DecidesInPart x ps) x ps
