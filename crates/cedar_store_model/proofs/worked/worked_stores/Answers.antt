use Rattle.cedar_store_model.proofs.Computed.{stands_in}
use Rattle.cedar_store_model.proofs.worked.worked_stores.Goals as goal

pub returns-clause-stands_in : goal.returns-clause-stands_in
returns-clause-stands_in c = stands_in
