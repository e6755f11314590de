use Rattle.std.proofs.Common.{sym, ◌∙◌}
use Rattle.cedar_gate_rules.specs.Policies.{policies_of}
use Rattle.cedarcheck.proofs.Broken.{ill_typed_fault, far_fault}
use Rattle.cedarcheck.proofs.faults.add_typed.Goals as goal

pub returns : goal.returns
returns g c =
    let t = g.S.DeclaredAttributes.schema c.args.schema.now in
    let y = g.S.TypingSchema.table c.args.schema.now in
    let ps = policies_of c.args.policies.now in
    let n = c.args.level in
    λ s w k h.
    c.in_ok-add_unless-2.ensures s (λ e. far_fault t y ps n s w c.levels_are_alike.ensures.none k (sym c.in_ok-are_near.ensures ∙ e))
    (c.in_ok-add_unless.ensures s (λ e. ill_typed_fault t y ps n s w c.verdicts_are_alike.ensures.passing k (sym c.in_ok-pass.ensures ∙ e)) h)
