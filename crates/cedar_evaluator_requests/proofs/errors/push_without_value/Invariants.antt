use Rattle.std.proofs.Common.{◌≡◌, ◌++◌, map}
use Rattle.cedar_evaluator_model.specs.Members.{without_value}
use Rattle.cedar_evaluator_requests.specs.Views.{error_of}
use Rattle.cedar_evaluator_requests.specs.Groups.{residual_seen}
use Rattle.cedar_evaluator_requests.proofs.errors.push_without_value.Given as goal

abbrev pub invariant-loop-id : goal.invariant-loop-id
invariant-loop-id l = map error_of l.errors.items ++ map without_value (map residual_seen l.id-iterator) ≡ map error_of l.initial.errors.items ++ map without_value (map residual_seen l.group.entries)
