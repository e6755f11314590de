use Rattle.std.proofs.Common.{◌≡◌, true, take}
use Rattle.std.specs.List.{list_all}
use Rattle.cedar_gate_rules.specs.Policies.{policies_of}
use Rattle.cedar_gate_rules.specs.Rules.{names_known}
use Rattle.cedar_gate_rules.proofs.scoped_policies.policies_keep.Given as goal

abbrev pub invariant-loop-policy : goal.invariant-loop-policy
invariant-loop-policy g l = list_all (names_known l.rule (g.S.DeclaredAttributes.schema l.schema)) (policies_of (take l.policy-index l.policies)) ≡ true
