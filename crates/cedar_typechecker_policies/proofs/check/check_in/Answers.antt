use Rattle.std.proofs.Common.{◌≡◌, true, sym, ap, ◌∙◌}
use Rattle.cedar_store_model.specs.Policy.{condition}
use Rattle.cedar_store_policies.specs.Templates.{template_of}
use Rattle.cedar_typechecker_environments.specs.Settings.{setting_of}
use Rattle.cedar_typechecker_model.specs.Typing.{type_of}
use Rattle.cedar_typechecker_model.specs.Verdicts.{HasVerdict}
use Rattle.cedar_typechecker_model.proofs.Verdicts.{verdict-Decides}
use Rattle.cedar_typechecker_policies.specs.Checks.{CheckSays, verdict_seen, is_passing}
use Rattle.cedar_typechecker_policies.specs.Sound.{ForAlike, MeansTruth}
use Rattle.cedar_typechecker_policies.proofs.Finding.{on_ok}
use Rattle.cedar_typechecker_policies.proofs.Said.{passes_as_bool}
use Rattle.cedar_typechecker_policies.proofs.Sound.{checked_means}
use Rattle.cedar_typechecker_policies.proofs.check.check_in.Goals as goal

pub returns-clause-verdict : goal.returns-clause-verdict
returns-clause-verdict g c =
    let k = setting_of g.S.DeclaredAttributes.schema g.S.TypingSchema.table c.args.world.now in
    let t = condition (template_of c.args.template.now) in
    on_ok c.check_said.result (CheckSays k t (template_of c.args.template.now).id) (λ v. HasVerdict k t (verdict_seen v)) (λ v h. (verdict-Decides k t (verdict_seen v)).0 h.verdict) c.check_said.ensures

pub returns-clause-sound : goal.returns-clause-sound
returns-clause-sound g c strictly =
    let k = setting_of g.S.DeclaredAttributes.schema g.S.TypingSchema.table c.args.world.now in
    let t = condition (template_of c.args.template.now) in
    on_ok c.check_said.result (CheckSays k t (template_of c.args.template.now).id) (λ v. is_passing (verdict_seen v) ≡ true → ForAlike k.schema k.table (MeansTruth k.env t))
    (λ v h passes. checked_means k t strictly (sym (passes_as_bool (type_of k t)) ∙ ap is_passing h.verdict ∙ passes))
    c.check_said.ensures
