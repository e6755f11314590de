use Rattle.cedar_store_model.proofs.Computed.{alike, not_alike}
use Rattle.cedar_store_model.proofs.worked.worked_sets_and_tests.Goals as goal

pub returns-clause-alike : goal.returns-clause-alike
returns-clause-alike c = alike

pub returns-clause-not_alike : goal.returns-clause-not_alike
returns-clause-not_alike c = not_alike
