use Rattle.std.proofs.Common.{take}
use Rattle.cedar_gate_accepted.specs.Checked.{ChecksAll}
use Rattle.cedar_gate_rules.specs.Policies.{policies_of}
use Rattle.cedar_gate_accepted.proofs.checked.check_all.Given as goal

abbrev pub invariant-loop-policy : goal.invariant-loop-policy
invariant-loop-policy g l = ChecksAll l.level (g.S.DeclaredAttributes.schema l.schema) (g.S.TypingSchema.table l.schema) (policies_of (take l.policy-index l.policies)) l.checked
