use Rattle.std.proofs.Common.{◌++◌, map, subst, ◌∙◌}
use Rattle.cedar_expr_model.specs.Tree.{Tree}
use Rattle.cedar_schema_joins.specs.Modes.{mode_of}
use Rattle.cedar_store_model.specs.Policy.{condition}
use Rattle.cedar_typechecker_environments.specs.Settings.{environment_of}
use Rattle.cedar_typechecker_model.specs.Verdicts.{in_mode}
use Rattle.cedar_typechecker_policies.specs.Checks.{IsChecked}
use Rattle.cedar_typechecker_policies.specs.Findings.{policy_in, level_in}
use Rattle.cedar_typechecker_policies.specs.Violations.{reached_in, violated_by, violation_told}
use Rattle.cedar_typechecker_policies.specs.declared.findings.PolicyFindings.{PolicyFindings}
use Rattle.cedar_typechecker_policies.specs.Fast.{IsClearVerdict, IsClearVerdictIfAny}
use Rattle.cedar_typechecker_policies.proofs.Over.{checks_more, checks_clear}
use Rattle.cedar_typechecker_policies.proofs.findings.add_environment.Goals as goal

pub returns-in-Some : goal.returns-in-Some
returns-in-Some g c es was =
    let m = mode_of c.args.mode in
    let s = g.S.DeclaredAttributes.schema c.args.schema.now in
    let x = g.S.TypingSchema.table c.args.schema.now in
    let q = c.args.policy.now in
    let p = policy_in q in
    let e = environment_of c.args.env.now in
    let v = c.in-Some.verdict in
    let P : Tree → Type 0 = λ t. IsClearVerdict (level_in q) (in_mode m s x e) t v in
    let now : IsClearVerdict (level_in q) (in_mode m s x e) (condition p) v = subst P c.condition-condition.ensures (subst (IsClearVerdictIfAny (level_in q) (in_mode m s x e) _) c.in-Some.is c.in_ok-verdict.ensures) in
    checks_clear (level_in q) m s x p es e c.args.found.now c.add_verdict.new.found v c.fits.result now was c.fits.ensures c.add_verdict.ensures.passes c.add_verdict.ensures.warned c.add_verdict.ensures.impossible c.add_verdict.ensures.errors c.add_verdict.ensures.violations

pub returns : goal.returns
returns g c es was =
    let m = mode_of c.args.mode in
    let s = g.S.DeclaredAttributes.schema c.args.schema.now in
    let x = g.S.TypingSchema.table c.args.schema.now in
    let q = c.args.policy.now in
    let p = policy_in q in
    let e = environment_of c.args.env.now in
    let checked = c.in_ok-checked.checked in
    let added = c.add_verdict-2.new.found in
    let P : Tree → Type 0 = λ t. IsChecked (in_mode m s x e) t p.id checked in
    let now : IsChecked (in_mode m s x e) (condition p) p.id checked = subst P c.condition-condition.ensures c.in_ok-checked.ensures in
    let new : PolicyFindings = record {
      passes = added.passes;
      is_warned = added.is_warned;
      is_impossible = added.is_impossible;
      errors = c.add_errors.new.found;
      violations = c.add_reached_of.new.found;
    } in
    checks_more (level_in q) m s x p es e c.args.found.now new checked c.fits-2.result now was c.fits-2.ensures c.add_verdict-2.ensures.passes c.add_verdict-2.ensures.warned c.add_verdict-2.ensures.impossible
    (c.in_ok-add_errors.ensures ∙ (λ i. (c.add_verdict-2.ensures.errors i).items ++ checked.errors.items))
    (c.in_ok-add_reached_of.ensures (condition p) now ∙ (λ i. map violation_told (c.add_verdict-2.ensures.violations i).items ++ map (reached_in p.id) (violated_by (level_in q) (in_mode m s x e) (condition p))))
