use Rattle.cedar_store_policies.specs.Policies.{policy_of}
use Rattle.cedar_evaluator_requests.proofs.Listed.{three_more}
use Rattle.cedar_evaluator_requests.proofs.policies.push_all.Goals as goal

pub returns : goal.returns
returns c = three_more policy_of _ _ _ _ _ _ _ c.in_ok-push_true.ensures c.in_ok-push_false.ensures c.in_ok-push_residual.ensures
