use Rattle.cedar_typechecker_environments.specs.Facts.{is_of}
use Rattle.cedar_typechecker_environments.proofs.Leading.{along_rises_or_falls}
use Rattle.cedar_typechecker_environments.proofs.facts.CapabilitySet.along.Goals as goal

pub in_order-requires : goal.in_order-requires
in_order-requires c = along_rises_or_falls c.args.facts.items c.requires

pub returns : goal.returns
returns c = λ i e p. c.in_order.ensures (is_of e p) i
