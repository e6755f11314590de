-- The laws of the derived order and hash, and the equality by the model.
use Rattle.cedar_schema_types.specs.contracts.core_types.CoreAttributesOrd.TheImpl.Laws as order_laws
use Rattle.cedar_schema_types.specs.contracts.core_types.CoreAttributesHash.TheImpl.Laws as hash_laws
use Rattle.cedar_schema.proofs.EqualCores.{core_attributes_decide}
use Rattle.cedar_schema.proofs.laws.core_attributes_are_compared.Goals as goal

pub returns-clause-equality : goal.returns-clause-equality
returns-clause-equality c = core_attributes_decide

pub returns-clause-order : goal.returns-clause-order
returns-clause-order c = order_laws.matches_eq-law

pub returns-clause-hash : goal.returns-clause-hash
returns-clause-hash c = hash_laws.respects_eq-law
