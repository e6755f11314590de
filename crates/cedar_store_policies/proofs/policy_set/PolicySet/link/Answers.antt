use Rattle.std.proofs.Common.{Some, option_map, sym, ap, ◌∙◌}
use Rattle.cedar_store_model.specs.Policy as model
use Rattle.cedar_store_model.specs.PolicySet.{with_policy}
use Rattle.cedar_store_parts.specs.Parts.{id_text, bindings_of, binding_places}
use Rattle.cedar_store_policies.specs.Templates.{template_of}
use Rattle.cedar_store_policies.specs.PolicySets.{set_of, set_seen}
use Rattle.cedar_store_policies.specs.Seen.{Seen, with_policy_seen, linked_seen}
use Rattle.cedar_store_policies.specs.SetRefusals.{RefusesLink}
use Rattle.cedar_store_policies.proofs.Keyed.{free, policy_put, policy_enters}
use Rattle.cedar_store_policies.proofs.Bound.{linked_is}
use Rattle.cedar_store_policies.proofs.Gathered.{handed}
use Rattle.cedar_store_policies.proofs.Seen.{policy_last}
use Rattle.cedar_store_policies.proofs.policy_set.PolicySet.link.Goals as goal

pub returns-in_err-template-clause-refused : goal.returns-in_err-template-clause-refused
returns-in_err-template-clause-refused c =
    handed (RefusesLink (set_of c.args.self.now) (id_text c.args.template_id.now) (id_text c.args.new_id) (bindings_of c.args.values)) c.in_err-template.field-0.0 c.from_residual.result c.from_residual.ensures.1 (c.in_err-template.ensures.refused (id_text c.args.new_id))

pub invariant_of-self : goal.invariant_of-self
invariant_of-self c =
    let s = c.args.self.now in
    let e = sym (ap (λ (p : model.Policy). p.id) c.new.ensures.policy) in
    let kept = policy_enters s.templates.entries s.links.entries s.templates_named s.links_named (id_text c.args.new_id) c.in_ok-id.id c.new.result c.put.new.map.entries c.put.result e c.in_ok-id.ensures.copied c.in_ok-id.ensures.no_template c.in_ok-id.ensures.no_policy s.distinct c.put.ensures.put c.put.ensures.unchanged in
    record { templates_named = s.templates_named; links_named = kept.0; distinct = kept.1 }

pub returns-clause-linked : goal.returns-clause-linked
returns-clause-linked c =
    let s = c.args.self.now in
    let unused = free s.templates.entries s.links.entries s.templates_named s.links_named (id_text c.args.new_id) c.in_ok-id.ensures.no_template c.in_ok-id.ensures.no_policy in
    linked_is (set_of s) (id_text c.args.template_id.now) (id_text c.args.new_id) (bindings_of c.args.values) (template_of c.in_ok-template.template.value) c.in_ok-template.ensures.found c.in_ok-template.ensures.fits unused
    ∙ ap Some (sym (policy_put s.templates.entries s.links.entries s.templates_named s.links_named c.put.new.map.entries c.in_ok-id.id c.new.result c.in_ok-put.ensures.put ∙ ap (with_policy (set_of s)) c.new.ensures.policy))

pub returns-clause-seen : goal.returns-clause-seen
returns-clause-seen c =
    let s = c.args.self.now in
    let made = c.new.ensures in
    ap (option_map (λ (t : Seen). with_policy_seen (set_seen s) (linked_seen t (id_text c.args.new_id) (binding_places c.args.values)))) c.in_ok-template.ensures.seen
    ∙ ap Some (sym (policy_last s.templates.entries s.links.entries c.put.new.map.entries c.in_ok-id.id c.new.result c.in_ok-put.ensures.put ∙ (λ i. with_policy_seen (set_seen s) (record { id = (made.policy i).id; places = made.places i; template = made.template i; bound = made.bound i }))))
