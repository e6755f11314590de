use Rattle.cedar_store_parts.specs.contracts.request_type.RequestTypeOrd.TheImpl.Laws as order
use Rattle.cedar_store_parts.specs.contracts.request_type.RequestTypeHash.TheImpl.Laws as hash
use Rattle.cedar_store_parts.proofs.RecordsCompared.{requests_decide}
use Rattle.cedar_store_parts.proofs.record_laws.request_types_agree.Goals as goal

pub returns-clause-order : goal.returns-clause-order
returns-clause-order c = order.matches_eq-law

pub returns-clause-hash : goal.returns-clause-hash
returns-clause-hash c = hash.respects_eq-law

pub returns-clause-equality : goal.returns-clause-equality
returns-clause-equality c = requests_decide
