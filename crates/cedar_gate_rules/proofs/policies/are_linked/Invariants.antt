use Rattle.std.proofs.Common.{◌≡◌, true, take}
use Rattle.std.specs.List.{list_all}
use Rattle.cedar_gate_model.specs.Acceptance.{is_linked}
use Rattle.cedar_gate_rules.specs.Policies.{policies_of}
use Rattle.cedar_gate_rules.proofs.policies.are_linked.Given as goal

abbrev pub invariant-loop-policy : goal.invariant-loop-policy
invariant-loop-policy l = list_all is_linked (policies_of (take l.policy-index l.policies)) ≡ true
