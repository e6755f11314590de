use Rattle.std.proofs.Common.{◌≡◌, [], ◌++◌, ap, ◌∙◌, map}
use Rattle.cedar_schema_joins.specs.Modes.{mode_of}
use Rattle.cedar_store_policies.specs.Templates.{template_of, template_loc}
use Rattle.cedar_store_parts.specs.Views.{warning_of}
use Rattle.cedar_typechecker_policies.specs.Findings.{warned_as}
use Rattle.cedar_typechecker_policies.specs.Found.{FindsErrors, FindsWarnings, scope_blames}
use Rattle.cedar_typechecker_policies.specs.Violations.{blame_told}
use Rattle.cedar_typechecker_policies.specs.Sound.{ForAlike, PolicyMeansTruth, LooksInReach}
use Rattle.cedar_typechecker_policies.specs.declared.leveled.Validated.{Validated}
use Rattle.cedar_typechecker_policies.proofs.Finding.{on_ok, errors_found, nothing_means, nothing_reaches}
use Rattle.cedar_typechecker_scopes.specs.Applying.{application_warnings, asked_in}
use Rattle.cedar_typechecker_scopes.specs.Faults.{blame_of}
use Rattle.cedar_typechecker_policies.proofs.leveled.validate_policy_with_level.Goals as goal

pub returns-clause-errors : goal.returns-clause-errors
returns-clause-errors g c =
    let n = c.args.max_deref_level.level in
    let m = mode_of c.args.mode in
    let s = g.S.DeclaredAttributes.schema c.args.schema.now in
    let x = g.S.TypingSchema.table c.args.schema.now in
    let p = template_of c.args.template.now in
    let f = c.in_ok-found.found in
    on_ok c.gathered.result (λ (v : Validated). map blame_of v.errors.items ≡ (scope_blames s p ++ map blame_of f.errors.items) ++ map blame_told f.violations.items) (λ (v : Validated). FindsErrors n m s x p v.errors.items)
    (λ v e. errors_found n m s x p f c.in_ok-found.ensures v.errors.items e)
    c.gathered.ensures.errors

pub returns-clause-warnings : goal.returns-clause-warnings
returns-clause-warnings g c =
    let m = mode_of c.args.mode in
    let s = g.S.DeclaredAttributes.schema c.args.schema.now in
    let x = g.S.TypingSchema.table c.args.schema.now in
    let p = template_of c.args.template.now in
    let o = template_loc c.args.template.now in
    let f = c.in_ok-found.found in
    on_ok c.gathered.result (λ (v : Validated). map warning_of v.warnings.items ≡ warned_as p.id o f.is_warned ++ application_warnings s p.id o (asked_in p)) (λ (v : Validated). FindsWarnings m s x p o v.warnings.items)
    (λ v e. e ∙ ap (λ b. warned_as p.id o b ++ application_warnings s p.id o (asked_in p)) c.in_ok-found.ensures.warned)
    c.gathered.ensures.warnings

pub returns-clause-sound : goal.returns-clause-sound
returns-clause-sound g c strictly =
    let n = c.args.max_deref_level.level in
    let m = mode_of c.args.mode in
    let s = g.S.DeclaredAttributes.schema c.args.schema.now in
    let x = g.S.TypingSchema.table c.args.schema.now in
    let p = template_of c.args.template.now in
    let f = c.in_ok-found.found in
    on_ok c.gathered.result (λ (v : Validated). map blame_of v.errors.items ≡ (scope_blames s p ++ map blame_of f.errors.items) ++ map blame_told f.violations.items) (λ (v : Validated). v.errors.items ≡ [] → ForAlike s x (PolicyMeansTruth p))
    (λ v e none. nothing_means n m s x p f c.in_ok-found.ensures v.errors.items e none strictly)
    c.gathered.ensures.errors

pub returns-clause-reach : goal.returns-clause-reach
returns-clause-reach g c strictly =
    let n = c.args.max_deref_level.level in
    let m = mode_of c.args.mode in
    let s = g.S.DeclaredAttributes.schema c.args.schema.now in
    let x = g.S.TypingSchema.table c.args.schema.now in
    let p = template_of c.args.template.now in
    let f = c.in_ok-found.found in
    on_ok c.gathered.result (λ (v : Validated). map blame_of v.errors.items ≡ (scope_blames s p ++ map blame_of f.errors.items) ++ map blame_told f.violations.items) (λ (v : Validated). v.errors.items ≡ [] → ForAlike s x (LooksInReach n p))
    (λ v e none. nothing_reaches n m s x p f c.in_ok-found.ensures v.errors.items e none strictly)
    c.gathered.ensures.errors
