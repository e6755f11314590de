use Rattle.std.proofs.Common.{◌≡◌, true, take}
use Rattle.std.specs.List.{list_all}
use Rattle.cedar_expr_model.specs.Lists.{is_nil}
use Rattle.cedar_gate_rules.specs.Policies.{policies_of}
use Rattle.cedar_typechecker_model.specs.Verdicts.{policy_violations}
use Rattle.cedarcheck.proofs.faults.all_are_near.Given as goal

abbrev pub invariant-loop-policy : goal.invariant-loop-policy
invariant-loop-policy g l = list_all (λ p. is_nil (policy_violations l.level (g.S.DeclaredAttributes.schema l.schema) (g.S.TypingSchema.table l.schema) p)) (policies_of (take l.policy-index l.policies)) ≡ true
