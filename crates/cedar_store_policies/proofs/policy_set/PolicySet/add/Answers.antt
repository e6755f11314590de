use Rattle.cedar_store_parts.specs.Parts.{id_text}
use Rattle.cedar_store_policies.proofs.Keyed.{policy_enters, policy_entered}
use Rattle.cedar_store_policies.proofs.Seen.{policy_last}
use Rattle.cedar_store_policies.proofs.policy_set.PolicySet.add.Goals as goal

pub invariant_of-self : goal.invariant_of-self
invariant_of-self c =
    let s = c.args.self.now in
    let kept = policy_enters s.templates.entries s.links.entries s.templates_named s.links_named (id_text c.id.result.now) c.in_ok-id.id c.args.policy c.put.new.map.entries c.put.result c.id.ensures c.in_ok-id.ensures.copied c.in_ok-id.ensures.no_template c.in_ok-id.ensures.no_policy s.distinct c.put.ensures.put c.put.ensures.unchanged in
    record { templates_named = s.templates_named; links_named = kept.0; distinct = kept.1 }

pub returns-clause-added : goal.returns-clause-added
returns-clause-added c =
    let s = c.args.self.now in
    policy_entered s.templates.entries s.links.entries s.templates_named s.links_named (id_text c.id.result.now) c.in_ok-id.id c.args.policy c.put.new.map.entries c.id.ensures c.in_ok-id.ensures.no_template c.in_ok-id.ensures.no_policy c.in_ok-put.ensures.put

pub returns-clause-seen : goal.returns-clause-seen
returns-clause-seen c =
    let s = c.args.self.now in
    policy_last s.templates.entries s.links.entries c.put.new.map.entries c.in_ok-id.id c.args.policy c.in_ok-put.ensures.put
