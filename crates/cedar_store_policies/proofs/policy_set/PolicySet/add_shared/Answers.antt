use Rattle.std.proofs.Common.{ap, ◌∙◌}
use Rattle.cedar_store_parts.specs.Parts.{id_text}
use Rattle.cedar_store_policies.specs.Templates.{template_of}
use Rattle.cedar_store_policies.specs.declared.template.Template.{Template}
use Rattle.cedar_store_policies.proofs.Keyed.{template_enters, template_entered}
use Rattle.cedar_store_policies.proofs.Seen.{template_last}
use Rattle.cedar_store_policies.proofs.policy_set.PolicySet.add_shared.Goals as goal

pub invariant_of-self : goal.invariant_of-self
invariant_of-self c =
    let s = c.args.self.now in
    let e = c.id.ensures ∙ ap (λ (t : Template). (template_of t).id) c.deref.ensures in
    let kept = template_enters s.templates.entries s.links.entries s.templates_named s.links_named (id_text c.id.result.now) c.in_ok-id.id c.args.template c.put.new.map.entries c.put.result e c.in_ok-id.ensures.copied c.in_ok-id.ensures.no_template c.in_ok-id.ensures.no_policy s.distinct c.put.ensures.put c.put.ensures.unchanged in
    record { templates_named = kept.0; links_named = s.links_named; distinct = kept.1 }

pub returns-clause-added : goal.returns-clause-added
returns-clause-added c =
    let s = c.args.self.now in
    let e = c.id.ensures ∙ ap (λ (t : Template). (template_of t).id) c.deref.ensures in
    template_entered s.templates.entries s.links.entries s.templates_named s.links_named (id_text c.id.result.now) c.in_ok-id.id c.args.template c.put.new.map.entries e c.in_ok-id.ensures.no_template c.in_ok-id.ensures.no_policy c.in_ok-put.ensures.put

pub returns-clause-seen : goal.returns-clause-seen
returns-clause-seen c =
    let s = c.args.self.now in
    template_last s.templates.entries c.put.new.map.entries s.links.entries c.in_ok-id.id c.args.template c.in_ok-put.ensures.put
