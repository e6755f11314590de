use Rattle.cedar_schema_model.proofs.Decls.Environments.{products, has_environment, slots_covered}
use Rattle.cedar_schema_model.proofs.decl_laws.environments_are_products.Goals as goal

pub returns-clause-products : goal.returns-clause-products
returns-clause-products c = products

pub returns-clause-requests : goal.returns-clause-requests
returns-clause-requests c = has_environment

pub returns-clause-slots : goal.returns-clause-slots
returns-clause-slots c = slots_covered
