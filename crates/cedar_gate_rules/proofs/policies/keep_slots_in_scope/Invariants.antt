use Rattle.std.proofs.Common.{◌≡◌, true, take}
use Rattle.std.specs.List.{list_all}
use Rattle.cedar_gate_model.specs.Acceptance.{keeps_slots_in_scope}
use Rattle.cedar_gate_rules.specs.Policies.{policies_of}
use Rattle.cedar_gate_rules.proofs.policies.keep_slots_in_scope.Given as goal

abbrev pub invariant-loop-policy : goal.invariant-loop-policy
invariant-loop-policy l = list_all keeps_slots_in_scope (policies_of (take l.policy-index l.policies)) ≡ true
