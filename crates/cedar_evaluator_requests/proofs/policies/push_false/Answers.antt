use Rattle.std.proofs.Common.{false, map, ap, ◌∙◌}
use Rattle.cedar_expr_model.specs.Tree.{lit}
use Rattle.cedar_expr_model.specs.Value.{truth}
use Rattle.cedar_expr_trees.specs.Trees.{tree_of}
use Rattle.cedar_store_parts.specs.Parts.{effect_of}
use Rattle.cedar_store_policies.specs.Policies.{policy_of}
use Rattle.cedar_evaluator_model.specs.Members.{left_policy}
use Rattle.cedar_evaluator_requests.specs.Groups.{noted_as, false_seen}
use Rattle.cedar_evaluator_requests.proofs.Listed.{one_more}
use Rattle.cedar_evaluator_requests.proofs.policies.push_false.Goals as goal

pub loop-id-preserved : goal.loop-id-preserved
loop-id-preserved c =
    one_more false_seen (λ n. left_policy (effect_of c.args.effect) n.0 (lit (truth false))) policy_of (map policy_of c.args.policies.now.items) c.loop-id.policies.items c.push.new.self.items c.args.group.now.entries c.loop-id.id-iterator c.next.new.self (c.in-Some.id.now, c.in-Some.kept.now) c.in_ok-policy_left.field-0 c.loop-id.invariant c.in-Some.ensures.steps c.in_ok-push.ensures.items
    (c.in_ok-policy_left.ensures ∙ ap (left_policy (effect_of c.args.effect) (noted_as c.in-Some.id.now (c.in-Some.kept.now.1).value)) (ap (tree_of {T = Unit}) c.in_ok-body.ensures.ok ∙ c.val.ensures.tree))
