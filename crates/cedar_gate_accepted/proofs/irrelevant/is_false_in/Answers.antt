use Rattle.std.proofs.Common.{ap, sym, ◌∙◌}
use Rattle.cedar_schema_model.specs.Types.{strict}
use Rattle.cedar_store_model.specs.Policy.{condition}
use Rattle.cedar_store_policies.specs.Templates.{template_of}
use Rattle.cedar_typechecker_environments.specs.Settings.{environment_of}
use Rattle.cedar_typechecker_model.specs.Typing.{type_of}
use Rattle.cedar_typechecker_model.specs.Verdicts.{in_mode, is_false, condition_type}
use Rattle.cedar_typechecker_policies.specs.Checks.{is_irrelevant}
use Rattle.cedar_typechecker_policies.proofs.Said.{irrelevant_as_false}
use Rattle.cedar_gate_accepted.proofs.irrelevant.is_false_in.Goals as goal

pub returns : goal.returns
returns g c =
    let s = g.S.DeclaredAttributes.schema c.args.schema.now in
    let x = g.S.TypingSchema.table c.args.schema.now in
    let e = environment_of c.args.env.now in
    c.is_irrelevant.ensures
    ∙ ap is_irrelevant (sym c.in_ok-check.ensures.says.verdict)
    ∙ irrelevant_as_false (type_of (in_mode strict s x e) (condition (template_of c.deref-template.result.now)))
    ∙ ap (λ p. is_false (condition_type s x p e)) (ap template_of c.deref-template.ensures ∙ c.template.ensures.template)
