use Rattle.cedar_store_model.proofs.Sets.{linking_is_exact}
use Rattle.cedar_store_model.proofs.Sets.{ids_stay_distinct}
use Rattle.cedar_store_model.proofs.laws.linking_is_exact.Goals as goal

pub returns-clause-exact : goal.returns-clause-exact
returns-clause-exact c = linking_is_exact

pub returns-clause-distinct : goal.returns-clause-distinct
returns-clause-distinct c = ids_stay_distinct
