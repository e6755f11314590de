use Rattle.std.proofs.Common.{ap, ◌∙◌}
use Rattle.cedar_typechecker_environments.specs.Facts.{facts_among}
use Rattle.cedar_typechecker_environments.proofs.Told.{alone}
use Rattle.cedar_typechecker_environments.proofs.facts.CapabilitySet.singleton.Goals as goal

pub returns : goal.returns
returns c = ap facts_among c.in_ok-capabilities.ensures ∙ alone c.args.e
