use Rattle.std.proofs.Common.{◌≡◌, ℕ, Some, IfOk, ap, sym, ◌∙◌, subst}
use Rattle.cedar_expr_model.specs.Lists.{is_nil}
use Rattle.cedar_gate_accepted.proofs.Listed.{on_ok, nil_map}
use Rattle.cedar_schema_model.specs.Types.{strict}
use Rattle.cedar_store_model.specs.Policy.{Policy}
use Rattle.cedar_store_model.specs.PolicySet.{linked}
use Rattle.cedar_store_parts.specs.Parts.{id_text, bindings_of}
use Rattle.cedar_store_policies.specs.Policies.{policy_of}
use Rattle.cedar_store_policies.specs.Templates.{template_of}
use Rattle.cedar_typechecker_model.specs.Verdicts.{policy_environments, passes, policy_violations}
use Rattle.cedar_typechecker_policies.specs.Findings.{ChecksOver}
use Rattle.cedar_typechecker_policies.specs.Violations.{reached_in, violation_told}
use Rattle.cedar_typechecker_policies.specs.declared.findings.PolicyFindings.{PolicyFindings}
use Rattle.cedarcheck.proofs.faults.findings_of.Goals as goal

pub returns-clause-typed : goal.returns-clause-typed
returns-clause-typed g c =
    let s = g.S.DeclaredAttributes.schema c.args.schema.now in
    let x = g.S.TypingSchema.table c.args.schema.now in
    let p = policy_of c.args.policy.now in
    let behind = ap template_of c.deref-template.ensures ∙ c.template.ensures.template in
    let same : linked (template_of c.deref-template.result.now) (id_text c.id.result.now) (bindings_of c.env.result.now) ≡ p = λ i. linked (behind i) (c.id.ensures i) (c.env.ensures.bindings i) in
    let P : ℕ → Policy → Type 0 = λ n q. IfOk c.check_policy.result (ChecksOver (Some n) strict s x q (policy_environments s q)) in
    on_ok c.check_policy.result (ChecksOver (Some c.args.level) strict s x p (policy_environments s p)) (λ (f : PolicyFindings). f.passes ≡ passes s x p) (λ f h. h.passes)
    (subst (λ n. P n p) c.from-level.ensures (subst (P c.from-level.result.level) same c.check_policy.ensures))

pub returns-clause-near : goal.returns-clause-near
returns-clause-near g c =
    let s = g.S.DeclaredAttributes.schema c.args.schema.now in
    let x = g.S.TypingSchema.table c.args.schema.now in
    let p = policy_of c.args.policy.now in
    let n = c.args.level in
    let behind = ap template_of c.deref-template.ensures ∙ c.template.ensures.template in
    let same : linked (template_of c.deref-template.result.now) (id_text c.id.result.now) (bindings_of c.env.result.now) ≡ p = λ i. linked (behind i) (c.id.ensures i) (c.env.ensures.bindings i) in
    let P : ℕ → Policy → Type 0 = λ m q. IfOk c.check_policy.result (ChecksOver (Some m) strict s x q (policy_environments s q)) in
    on_ok c.check_policy.result (ChecksOver (Some n) strict s x p (policy_environments s p)) (λ (f : PolicyFindings). is_nil f.violations.items ≡ is_nil (policy_violations n s x p))
    (λ f h. sym (nil_map violation_told f.violations.items) ∙ ap is_nil h.violations ∙ nil_map (reached_in p.id) (policy_violations n s x p))
    (subst (λ m. P m p) c.from-level.ensures (subst (P c.from-level.result.level) same c.check_policy.ensures))
