use Rattle.std.proofs.Common.{◌≡◌, true, take}
use Rattle.std.specs.List.{list_all}
use Rattle.cedar_gate_rules.specs.Policies.{policies_of}
use Rattle.cedar_typechecker_model.specs.Verdicts.{passes}
use Rattle.cedarcheck.proofs.faults.all_pass.Given as goal

abbrev pub invariant-loop-policy : goal.invariant-loop-policy
invariant-loop-policy g l = list_all (passes (g.S.DeclaredAttributes.schema l.schema) (g.S.TypingSchema.table l.schema)) (policies_of (take l.policy-index l.policies)) ≡ true
