use Rattle.cedar_evaluator_model.proofs.Exact.{exact}
use Rattle.cedar_evaluator_core.proofs.Concluded.{meant}
use Rattle.cedar_evaluator_core.proofs.evaluator.Evaluator.interpret.Goals as goal

pub returns-clause-meaning : goal.returns-clause-meaning
returns-clause-meaning g c = λ fs h k a r m. meant _ r c.value.result (c.value.ensures fs h) (((exact _ k.agrees k.known a _ _ k.bound k.within).exact r).0 m)
