-- The laws of the derived order and hash, and the equality level by level.
use Rattle.cedar_schema_types.specs.contracts.core_types.CoreSchemaTypeOrd.TheImpl.Laws as order_laws
use Rattle.cedar_schema_types.specs.contracts.core_types.CoreSchemaTypeHash.TheImpl.Laws as hash_laws
use Rattle.cedar_schema.proofs.EqualCores.{cores_decide}
use Rattle.cedar_schema.proofs.laws.core_types_are_compared.Goals as goal

pub returns-clause-order : goal.returns-clause-order
returns-clause-order c = order_laws.matches_eq-law

pub returns-clause-equality : goal.returns-clause-equality
returns-clause-equality c = cores_decide

pub returns-clause-hash : goal.returns-clause-hash
returns-clause-hash c = hash_laws.respects_eq-law
