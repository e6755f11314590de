use Rattle.std.proofs.Common.{sym, refl, ◌∙◌}
use Rattle.cedar_gate_accepted.proofs.Scopes.{types_refused, actions_refused, members_refused}
use Rattle.cedar_gate_model.specs.Acceptance.{unknown_entity_type, unknown_action, no_member}
use Rattle.cedar_gate_rules.specs.Policies.{policies_of}
use Rattle.cedarcheck.proofs.faults.add_named.Goals as goal

pub returns : goal.returns
returns g c =
    let t = g.S.DeclaredAttributes.schema c.args.schema.now in
    let ps = policies_of c.args.policies.now in
    let law = c.scope_rules_are_alike.ensures in
    λ s w k h.
    c.in_ok-add_unless-3.ensures s (λ e. (no_member, members_refused t ps s w law.members k (sym c.in_ok-name_members.ensures ∙ e), refl))
    (c.in_ok-add_unless-2.ensures s (λ e. (unknown_action, actions_refused t ps s w law.actions k (sym c.in_ok-name_actions.ensures ∙ e), refl))
    (c.in_ok-add_unless.ensures s (λ e. (unknown_entity_type, types_refused t ps s w law.types k (sym c.in_ok-name_types.ensures ∙ e), refl)) h))
