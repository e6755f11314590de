use Rattle.cedar_evaluator_requests.proofs.Listed.{from_two}
use Rattle.cedar_store_policies.specs.Policies.{policy_of}
use Rattle.cedar_evaluator.proofs.partial_response.PartialResponse.definitely_satisfied.Goals as goal

pub returns : goal.returns
returns c = from_two policy_of _ _ _ _ _ c.new-policies.ensures.items c.in_ok-push_true.ensures c.in_ok-push_true-2.ensures
