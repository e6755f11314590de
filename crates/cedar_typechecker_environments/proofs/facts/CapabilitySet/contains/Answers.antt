use Rattle.std.proofs.Common.{◌∙◌}
use Rattle.cedar_typechecker_environments.proofs.Told.{found}
use Rattle.cedar_typechecker_environments.proofs.facts.CapabilitySet.contains.Goals as goal

pub returns : goal.returns
returns c = c.contains.ensures ∙ found c.args.e.now c.args.self.now.capabilities
