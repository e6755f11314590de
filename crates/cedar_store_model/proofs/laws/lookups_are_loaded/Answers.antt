use Rattle.cedar_store_model.proofs.Lookups.{looks_are_loaded}
use Rattle.cedar_store_model.proofs.laws.lookups_are_loaded.Goals as goal

pub returns : goal.returns
returns c w t g = looks_are_loaded w t g.0 g.1
