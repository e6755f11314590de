use Rattle.std.proofs.Common.{map}
use Rattle.cedar_store_parts.specs.Parts.{effect_of}
use Rattle.cedar_store_policies.specs.Policies.{policy_of}
use Rattle.cedar_evaluator_model.specs.Members.{left_policy}
use Rattle.cedar_evaluator_requests.specs.Groups.{residual_seen}
use Rattle.cedar_evaluator_requests.proofs.Listed.{one_more}
use Rattle.cedar_evaluator_requests.proofs.policies.push_residual.Goals as goal

pub loop-id-preserved : goal.loop-id-preserved
loop-id-preserved c =
    one_more residual_seen (λ n. left_policy (effect_of c.args.effect) n.0 n.1) policy_of (map policy_of c.args.policies.now.items) c.loop-id.policies.items c.push.new.self.items c.args.group.now.entries c.loop-id.id-iterator c.next.new.self (c.in-Some.id.now, c.in-Some.kept.now) c.in_ok-policy_left.field-0 c.loop-id.invariant c.in-Some.ensures.steps c.in_ok-push.ensures.items
    c.in_ok-policy_left.ensures
