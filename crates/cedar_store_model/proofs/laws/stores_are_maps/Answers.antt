use Rattle.cedar_store_model.proofs.Stores.{lookup_is_exact}
use Rattle.cedar_store_model.proofs.Stores.{whole_extends_partial}
use Rattle.cedar_store_model.proofs.Stores.{whole_stores_are_whole}
use Rattle.cedar_store_model.proofs.laws.stores_are_maps.Goals as goal

pub returns-clause-lookup : goal.returns-clause-lookup
returns-clause-lookup c = lookup_is_exact

pub returns-clause-extended : goal.returns-clause-extended
returns-clause-extended c = whole_extends_partial

pub returns-clause-whole : goal.returns-clause-whole
returns-clause-whole c = whole_stores_are_whole
