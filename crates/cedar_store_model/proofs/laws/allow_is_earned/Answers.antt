use Rattle.cedar_store_model.proofs.Answers.{allow_is_earned}
use Rattle.cedar_store_model.proofs.laws.allow_is_earned.Goals as goal

pub returns : goal.returns
returns c = allow_is_earned
