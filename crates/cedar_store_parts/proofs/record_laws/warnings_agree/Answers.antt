use Rattle.cedar_store_parts.specs.contracts.diagnostics.ValidationWarningOrd.TheImpl.Laws as order
use Rattle.cedar_store_parts.specs.contracts.diagnostics.ValidationWarningHash.TheImpl.Laws as hash
use Rattle.cedar_store_parts.proofs.RecordsCompared.{warnings_decide}
use Rattle.cedar_store_parts.proofs.record_laws.warnings_agree.Goals as goal

pub returns-clause-order : goal.returns-clause-order
returns-clause-order c = order.matches_eq-law

pub returns-clause-hash : goal.returns-clause-hash
returns-clause-hash c = hash.respects_eq-law

pub returns-clause-equality : goal.returns-clause-equality
returns-clause-equality c = warnings_decide
