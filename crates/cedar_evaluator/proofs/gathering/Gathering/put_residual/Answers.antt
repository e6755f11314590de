use Rattle.std.proofs.Common.{ap, sym, ◌∙◌}
use Rattle.cedar_expr_trees.specs.Trees.{tree_of}
use Rattle.cedar_store_parts.specs.Parts.{effect_of}
use Rattle.cedar_store_policies.specs.Policies.{policy_of}
use Rattle.cedar_evaluator_model.specs.Response.{noted}
use Rattle.cedar_evaluator_requests.specs.Groups.{residual_seen}
use Rattle.cedar_evaluator.specs.Gathering.{gathered}
use Rattle.cedar_evaluator.proofs.Pushed.{pushed, residual_permit, residual_forbid}
use Rattle.cedar_evaluator.proofs.gathering.Gathering.put_residual.Goals as goal

pub returns-in_ok-push-in-Permit : goal.returns-in_ok-push-in-Permit
returns-in_ok-push-in-Permit c = λ q. residual_permit (gathered q c.args.self.now) _ (noted (policy_of c.args.policy.now), tree_of {T = Unit} c.args.left.value) _ (pushed residual_seen c.args.self.now.residual_permits.items _ _ _ c.in_ok-push-in-Permit.ensures.items (ap (λ n. (n, tree_of {T = Unit} c.args.left.value)) c.in_ok-id.ensures)) (ap effect_of (sym c.in-Permit.is) ∙ c.effect.ensures)

pub returns-in_ok-push-in-Forbid : goal.returns-in_ok-push-in-Forbid
returns-in_ok-push-in-Forbid c = λ q. residual_forbid (gathered q c.args.self.now) _ (noted (policy_of c.args.policy.now), tree_of {T = Unit} c.args.left.value) _ (pushed residual_seen c.args.self.now.residual_forbids.items _ _ _ c.in_ok-push-in-Forbid.ensures.items (ap (λ n. (n, tree_of {T = Unit} c.args.left.value)) c.in_ok-id.ensures)) (ap effect_of (sym c.in-Forbid.is) ∙ c.effect.ensures)
