use Rattle.std.proofs.Common.{◌++◌, map, ap, ◌∙◌}
use Rattle.cedar_store_parts.specs.Parts.{id_text}
use Rattle.cedar_store_policies.specs.Policies.{policy_of}
use Rattle.cedar_typechecker_policies.specs.Violations.{violation_told}
use Rattle.cedar_gate_accepted.proofs.Judging.{checks_more}
use Rattle.cedar_gate_accepted.proofs.checked.add_policy.Goals as goal

pub returns : goal.returns
returns g c own ps was =
    checks_more c.args.level (g.S.DeclaredAttributes.schema c.args.schema.now) (g.S.TypingSchema.table c.args.schema.now) ps (policy_of c.args.policy.now) c.args.checked.now _ c.in_ok-found.found was (c.in_ok-found.ensures own)
    c.add_pass.ensures.passes
    (c.in_ok-add_violations.ensures ∙ ap (λ v. map violation_told v.items ++ map violation_told c.in_ok-found.found.violations.items) c.add_pass.ensures.violations)
    (ap (λ w. map id_text w.items) c.add_pass.ensures.warnings ∙ c.in_ok-add_warning.ensures)
