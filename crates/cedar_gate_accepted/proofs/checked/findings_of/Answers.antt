use Rattle.std.proofs.Common.{◌≡◌, ℕ, Some, IfOk, ap, ◌∙◌, subst}
use Rattle.cedar_schema_model.specs.Types.{strict}
use Rattle.cedar_store_model.specs.Policy.{Policy}
use Rattle.cedar_store_model.specs.PolicySet.{linked}
use Rattle.cedar_store_parts.specs.Parts.{id_text, bindings_of}
use Rattle.cedar_store_policies.specs.Policies.{policy_of}
use Rattle.cedar_store_policies.specs.Templates.{template_of}
use Rattle.cedar_typechecker_model.specs.Verdicts.{policy_environments}
use Rattle.cedar_typechecker_policies.specs.Findings.{ChecksOver}
use Rattle.cedar_gate_accepted.proofs.checked.findings_of.Goals as goal

pub returns : goal.returns
returns g c own =
    let s = g.S.DeclaredAttributes.schema c.args.schema.now in
    let x = g.S.TypingSchema.table c.args.schema.now in
    let p = policy_of c.args.policy.now in
    let behind = ap template_of c.deref-template.ensures ∙ c.template.ensures.template in
    let same : linked (template_of c.deref-template.result.now) (id_text c.id.result.now) (bindings_of c.env.result.now) ≡ p = λ i. linked (behind i) (c.id.ensures i) (c.env.ensures.bindings i) in
    let P : ℕ → Policy → Type 0 = λ n q. IfOk c.check_policy_by.result (ChecksOver (Some n) strict s x q (policy_environments s q)) in
    subst (λ n. P n p) c.from-level.ensures (subst (P c.from-level.result.level) same (c.check_policy_by.ensures own))
