use Rattle.cedar_evaluator_operators.specs.Scopes.{scope_of}
use Rattle.cedar_evaluator_core.proofs.calls.answer.Goals as goal

pub returns : goal.returns
unfolding scope_of
returns g c = λ fs h. let told = c.call.ensures fs.answers fs.calls h in rw c.as_slice.ensures.value at told
