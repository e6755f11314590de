use Rattle.std.proofs.Common.{◌≡◌, true, take}
use Rattle.std.specs.Prelude.{not}
use Rattle.std.specs.List.{list_all}
use Rattle.cedar_expr_model.specs.Unknowns.{has_unknown}
use Rattle.cedar_store_model.specs.Policy.{condition}
use Rattle.cedar_gate_rules.specs.Policies.{policies_of}
use Rattle.cedar_gate_rules.proofs.policies.stand_without_unknowns.Given as goal

abbrev pub invariant-loop-policy : goal.invariant-loop-policy
invariant-loop-policy l = list_all (λ p. not (has_unknown (condition p))) (policies_of (take l.policy-index l.policies)) ≡ true
