use Rattle.std.proofs.Common.{◌≡◌, subst, IfOk}
use Rattle.cedar_schema_joins.specs.Modes.{mode_of}
use Rattle.cedar_store_model.specs.Policy.{Policy}
use Rattle.cedar_store_model.specs.PolicySet.{linked}
use Rattle.cedar_store_parts.specs.Parts.{id_text, bindings_of}
use Rattle.cedar_store_policies.specs.Templates.{template_of}
use Rattle.cedar_typechecker_model.specs.Verdicts.{policy_environments}
use Rattle.cedar_typechecker_policies.specs.Findings.{ChecksOver}
use Rattle.cedar_typechecker_policies.specs.Violations.{level_of}
use Rattle.cedar_typechecker_policies.proofs.findings.check_template.Goals as goal

pub returns : goal.returns
returns g c =
    let s = g.S.DeclaredAttributes.schema c.args.schema.now in
    let x = g.S.TypingSchema.table c.args.schema.now in
    let p = template_of c.args.template.now in
    let same : linked p (id_text c.id.result.now) (bindings_of c.new-bound.result) ≡ p = λ i. linked p (c.id.ensures i) (c.new-bound.ensures.bindings i) in
    subst (λ (q : Policy). IfOk c.check_policy.result (ChecksOver (level_of c.args.level) (mode_of c.args.mode) s x q (policy_environments s q))) same c.check_policy.ensures
