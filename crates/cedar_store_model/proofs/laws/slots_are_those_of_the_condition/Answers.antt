use Rattle.cedar_store_model.proofs.Sets.{condition_uses}
use Rattle.cedar_store_model.proofs.laws.slots_are_those_of_the_condition.Goals as goal

pub returns : goal.returns
returns c = condition_uses
