use Rattle.cedar_typechecker_environments.specs.contracts.facts.CapabilityOrd.TheImpl.Laws as order
use Rattle.cedar_typechecker_environments.specs.contracts.facts.CapabilityHash.TheImpl.Laws as hash
use Rattle.cedar_typechecker_environments.proofs.Told.{capabilities_decide}
use Rattle.cedar_typechecker_environments.proofs.laws.capabilities_agree.Goals as goal

pub returns-clause-order : goal.returns-clause-order
returns-clause-order c = order.matches_eq-law

pub returns-clause-hash : goal.returns-clause-hash
returns-clause-hash c = hash.respects_eq-law

pub returns-clause-equality : goal.returns-clause-equality
returns-clause-equality c = capabilities_decide
