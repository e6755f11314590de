use Rattle.cedar_store_policies.proofs.Keyed.{found_policy}
use Rattle.cedar_store_policies.proofs.Seen.{found_policy_seen}
use Rattle.cedar_store_policies.proofs.policy_set.PolicySet.get.Goals as goal

pub returns-clause-policy : goal.returns-clause-policy
returns-clause-policy c =
    let s = c.args.self.now in
    found_policy c.args.id.now s.templates.entries s.links.entries c.get.result s.links_named c.get.ensures.value

pub returns-clause-seen : goal.returns-clause-seen
returns-clause-seen c =
    let s = c.args.self.now in
    found_policy_seen c.args.id.now s.links.entries c.get.result s.links_named c.get.ensures.value
