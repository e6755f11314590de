use Rattle.std.proofs.Common.{◌≡◌, true, sym, subst, ◌∙◌}
use Rattle.std.specs.Set.{IsUnion}
use Rattle.cedar_schema_joins.specs.Modes.{mode_of}
use Rattle.cedar_store_policies.specs.Templates.{template_of, template_loc}
use Rattle.cedar_store_parts.specs.contracts.diagnostics.ValidationErrorPartialEq.TheImpl as errors
use Rattle.cedar_store_parts.specs.contracts.diagnostics.ValidationWarningPartialEq.TheImpl as warnings
use Rattle.cedar_typechecker_model.specs.Verdicts.{passes_in, is_warned}
use Rattle.cedar_typechecker_policies.specs.Found.{GainsErrors, GainsWarnings}
use Rattle.cedar_typechecker_policies.specs.Sound.{ForAlike, PolicyMeansTruth}
use Rattle.cedar_typechecker_policies.proofs.Finding.{on_ok, on_done}
use Rattle.cedar_typechecker_policies.proofs.Sound.{passing_means}
use Rattle.cedar_typechecker_policies.proofs.policy.typecheck_policy.Goals as goal

pub returns-clause-passes : goal.returns-clause-passes
returns-clause-passes g c =
    let f = c.in_ok-found.found in
    on_ok c.put_findings.result (λ b. b ≡ f.passes) (λ b. b ≡ passes_in (mode_of c.args.mode) (g.S.DeclaredAttributes.schema c.args.schema.now) (g.S.TypingSchema.table c.args.schema.now) (template_of c.args.template.now))
    (λ b e. e ∙ c.in_ok-found.ensures.passes)
    c.put_findings.ensures.passes

pub returns-clause-errors : goal.returns-clause-errors
returns-clause-errors g c =
    let f = c.in_ok-found.found in
    let h = c.in_ok-found.ensures in
    let eq = (errors.ghosts).eq in
    on_done c.put_findings.result (IsUnion eq c.args.type_errors.now.keys f.errors.items c.put_findings.new.type_errors.keys)
    (GainsErrors eq (template_of c.args.template.now).id (passes_in (mode_of c.args.mode) (g.S.DeclaredAttributes.schema c.args.schema.now) (g.S.TypingSchema.table c.args.schema.now) (template_of c.args.template.now)) c.args.type_errors.now c.put_findings.new.type_errors)
    (λ u. (f.errors.items, h.policy, h.errors ∙ h.passes, u))
    c.put_findings.ensures.errors

pub returns-clause-warnings : goal.returns-clause-warnings
returns-clause-warnings g c =
    let h = c.in_ok-found.ensures in
    let eq = (warnings.ghosts).eq in
    let p = template_of c.args.template.now in
    let w = is_warned (mode_of c.args.mode) (g.S.DeclaredAttributes.schema c.args.schema.now) (g.S.TypingSchema.table c.args.schema.now) p in
    let l = template_loc c.args.template.now in
    on_done c.put_findings.result (GainsWarnings eq p.id l c.in_ok-found.found.is_warned c.args.warnings.now c.put_findings.new.warnings) (GainsWarnings eq p.id l w c.args.warnings.now c.put_findings.new.warnings)
    (λ u. subst (λ b. GainsWarnings eq p.id l b c.args.warnings.now c.put_findings.new.warnings) h.warned u)
    c.put_findings.ensures.warnings

pub returns-clause-sound : goal.returns-clause-sound
returns-clause-sound g c strictly =
    let f = c.in_ok-found.found in
    let m = mode_of c.args.mode in
    let s = g.S.DeclaredAttributes.schema c.args.schema.now in
    let x = g.S.TypingSchema.table c.args.schema.now in
    let p = template_of c.args.template.now in
    on_ok c.put_findings.result (λ b. b ≡ f.passes) (λ b. b ≡ true → ForAlike s x (PolicyMeansTruth p))
    (λ b e t. passing_means m s x p strictly (sym c.in_ok-found.ensures.passes ∙ sym e ∙ t))
    c.put_findings.ensures.passes
