use Rattle.std.proofs.Common.{sym, ap, ◌∙◌}
use Rattle.cedar_schema_model.specs.Environment.{environments_for}
use Rattle.cedar_typechecker_scopes.specs.Uses.{use_of}
use Rattle.cedar_typechecker_scopes.proofs.Unlinked.{unlinked}
use Rattle.cedar_typechecker_scopes.proofs.environments.policy_environments_by.Goals as goal

pub returns-in-NoSlot-NoSlot : goal.returns-in-NoSlot-NoSlot
returns-in-NoSlot-NoSlot g c own =
    let s = g.S.DeclaredAttributes.schema c.args.schema.now in
    let principal = ap use_of (sym c.in-NoSlot-NoSlot.is-0) ∙ c.slots_used-principal.ensures.principal in
    let resource = ap use_of (sym c.in-NoSlot-NoSlot.is-1) ∙ c.slots_used-principal.ensures.resource in
    own ∙ sym (unlinked s) ∙ (λ i. environments_for s (principal i) (resource i))
