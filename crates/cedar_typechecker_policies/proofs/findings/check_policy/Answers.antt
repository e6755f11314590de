use Rattle.std.proofs.Common.{map, ap, ◌∙◌}
use Rattle.cedar_typechecker_environments.specs.Settings.{environment_of}
use Rattle.cedar_typechecker_policies.proofs.findings.check_policy.Goals as goal

pub returns : goal.returns
returns g c = c.check_policy_by.ensures (ap (map environment_of) c.as_slice.ensures.value ∙ c.in_ok-own.ensures)
