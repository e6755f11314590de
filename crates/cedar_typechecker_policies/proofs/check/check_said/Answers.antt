use Rattle.std.proofs.Common.{subst}
use Rattle.cedar_expr_model.specs.Name.{Text}
use Rattle.cedar_expr_model.specs.Tree.{Tree}
use Rattle.cedar_store_model.specs.Policy.{condition}
use Rattle.cedar_store_parts.specs.Parts.{id_text}
use Rattle.cedar_store_policies.specs.Templates.{template_of}
use Rattle.cedar_typechecker_environments.specs.Settings.{setting_of}
use Rattle.cedar_typechecker_policies.specs.Checks.{IsChecked}
use Rattle.cedar_typechecker_policies.proofs.check.check_said.Goals as goal

pub returns : goal.returns
returns g c =
    let k = setting_of g.S.DeclaredAttributes.schema g.S.TypingSchema.table c.args.world.now in
    let p = template_of c.args.template.now in
    let A : Tree → Type 0 = λ t. IsChecked k t (id_text c.id.result.now) c.in_ok-checked.checked in
    let B : Text → Type 0 = λ i. IsChecked k (condition p) i c.in_ok-checked.checked in
    c.policy_check.ensures k (condition p) p.id (subst B c.id.ensures (subst A c.condition.ensures c.in_ok-checked.ensures))
