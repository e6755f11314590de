use Rattle.std.proofs.Common.{◌≡◌, true, take}
use Rattle.std.specs.Prelude.{nat_le}
use Rattle.std.specs.List.{list_all}
use Rattle.cedar_expr_model.specs.Tree.{nesting}
use Rattle.cedar_store_model.specs.Policy.{condition}
use Rattle.cedar_gate_rules.specs.Policies.{policies_of}
use Rattle.cedar_gate_rules.proofs.policies.nest_within.Given as goal

abbrev pub invariant-loop-policy : goal.invariant-loop-policy
invariant-loop-policy l = list_all (λ p. nat_le (nesting (condition p)) l.limit) (policies_of (take l.policy-index l.policies)) ≡ true
