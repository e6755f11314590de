use Rattle.std.proofs.Common.{sym, ◌∙◌}
use Rattle.cedar_gate_rules.specs.Policies.{policies_of}
use Rattle.cedar_gate_accepted.proofs.Scopes.{names_kept}
use Rattle.cedar_gate_accepted.proofs.names.check_names.Goals as goal

pub returns-clause-kept : goal.returns-clause-kept
returns-clause-kept g c =
    λ s w. names_kept (g.S.DeclaredAttributes.schema c.args.schema.now) (policies_of c.args.policies.now) s w
    c.scope_rules_are_alike.ensures.types c.scope_rules_are_alike.ensures.actions c.scope_rules_are_alike.ensures.members
    (sym c.in_ok-name_known_types.ensures ∙ c.if-not-branch.false) (sym c.in_ok-name_known_actions.ensures ∙ c.if-not-branch-2.false) (sym c.in_ok-name_known_members.ensures ∙ c.if-not-branch-3.false)
