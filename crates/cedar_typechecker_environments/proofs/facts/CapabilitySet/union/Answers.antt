use Rattle.cedar_typechecker_environments.proofs.Told.{together, copies_are_same}
use Rattle.cedar_typechecker_environments.proofs.facts.CapabilitySet.union.Goals as goal

pub union-requires : goal.union-requires
union-requires c = copies_are_same

pub returns : goal.returns
returns c = together c.args.self.now.capabilities c.args.other.now.capabilities c.in_ok-capabilities.capabilities c.in_ok-capabilities.ensures
