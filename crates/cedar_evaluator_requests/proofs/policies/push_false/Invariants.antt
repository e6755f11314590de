use Rattle.std.proofs.Common.{◌≡◌, ◌++◌, map}
use Rattle.cedar_store_parts.specs.Parts.{effect_of}
use Rattle.cedar_store_policies.specs.Policies.{policy_of}
use Rattle.cedar_evaluator_model.specs.Members.{of_false}
use Rattle.cedar_evaluator_requests.specs.Groups.{false_seen}
use Rattle.cedar_evaluator_requests.proofs.policies.push_false.Given as goal

abbrev pub invariant-loop-id : goal.invariant-loop-id
invariant-loop-id l = map policy_of l.policies.items ++ of_false (effect_of l.effect) (map false_seen l.id-iterator) ≡ map policy_of l.initial.policies.items ++ of_false (effect_of l.effect) (map false_seen l.group.entries)
