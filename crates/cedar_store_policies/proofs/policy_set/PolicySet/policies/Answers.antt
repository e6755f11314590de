use Rattle.std.proofs.Common.{map, ap, ◌∙◌}
use Rattle.cedar_store_policies.specs.Policies.{policy_of}
use Rattle.cedar_store_policies.specs.Seen.{policy_seen}
use Rattle.cedar_store_policies.proofs.Keyed.{map_values}
use Rattle.cedar_store_policies.proofs.policy_set.PolicySet.policies.Goals as goal

pub returns-clause-policies : goal.returns-clause-policies
returns-clause-policies c = ap (map policy_of) c.values.ensures.rest ∙ map_values policy_of c.args.self.now.links.entries

pub returns-clause-seen : goal.returns-clause-seen
returns-clause-seen c = ap (map policy_seen) c.values.ensures.rest ∙ map_values policy_seen c.args.self.now.links.entries
