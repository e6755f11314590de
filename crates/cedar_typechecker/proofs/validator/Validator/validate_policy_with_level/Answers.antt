use Rattle.std.proofs.Common.{◌≡◌, ℕ, [], IfOk, subst}
use Rattle.cedar_store_policies.specs.Templates.{template_of}
use Rattle.cedar_typechecker.specs.Views.{schema_validated_by, table_validated_by}
use Rattle.cedar_typechecker_policies.specs.Sound.{ForAlike, LooksInReach}
use Rattle.cedar_typechecker_policies.specs.declared.leveled.Validated.{Validated}
use Rattle.cedar_typechecker.proofs.validator.Validator.validate_policy_with_level.Goals as goal

pub returns-clause-reach : goal.returns-clause-reach
returns-clause-reach g c strictly =
    let s = schema_validated_by c.args.self.now in
    let x = table_validated_by c.args.self.now in
    let p = template_of c.args.p.now in
    subst
    (λ (n : ℕ). IfOk c.validate_policy_with_level.result (λ (v : Validated). v.errors.items ≡ [] → ForAlike s x (LooksInReach n p)))
    c.from-level.ensures
    (c.validate_policy_with_level.ensures.reach strictly)
