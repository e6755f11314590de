use Rattle.cedar_store_policies.proofs.Keyed.{found_template}
use Rattle.cedar_store_policies.proofs.Seen.{found_template_seen}
use Rattle.cedar_store_policies.proofs.policy_set.PolicySet.get_template.Goals as goal

pub returns-clause-template : goal.returns-clause-template
returns-clause-template c =
    let s = c.args.self.now in
    found_template c.args.id.now s.templates.entries s.links.entries c.get.result s.templates_named c.get.ensures.value

pub returns-clause-seen : goal.returns-clause-seen
returns-clause-seen c =
    let s = c.args.self.now in
    found_template_seen c.args.id.now s.templates.entries c.get.result s.templates_named c.get.ensures.value
