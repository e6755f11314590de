use Rattle.std.proofs.Common.{◌≡◌, ◌++◌, map}
use Rattle.cedar_store_parts.specs.Parts.{effect_of}
use Rattle.cedar_store_policies.specs.Policies.{policy_of}
use Rattle.cedar_evaluator_model.specs.Members.{of_true}
use Rattle.cedar_evaluator_requests.specs.Groups.{noted_seen}
use Rattle.cedar_evaluator_requests.proofs.policies.push_true.Given as goal

abbrev pub invariant-loop-id : goal.invariant-loop-id
invariant-loop-id l = map policy_of l.policies.items ++ of_true (effect_of l.effect) (map noted_seen l.id-iterator) ≡ map policy_of l.initial.policies.items ++ of_true (effect_of l.effect) (map noted_seen l.group.entries)
