use Rattle.cedar_typechecker_environments.proofs.Told.{in_common, copies_are_same}
use Rattle.cedar_typechecker_environments.proofs.facts.CapabilitySet.intersect.Goals as goal

pub intersect-requires : goal.intersect-requires
intersect-requires c = copies_are_same

pub returns : goal.returns
returns c = in_common c.args.self.now.capabilities c.args.other.now.capabilities c.in_ok-capabilities.capabilities c.in_ok-capabilities.ensures
