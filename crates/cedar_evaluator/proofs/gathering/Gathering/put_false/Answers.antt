use Rattle.std.proofs.Common.{ap, sym, ◌∙◌}
use Rattle.cedar_store_parts.specs.Parts.{effect_of}
use Rattle.cedar_store_policies.specs.Policies.{policy_of}
use Rattle.cedar_evaluator_model.specs.Response.{noted}
use Rattle.cedar_evaluator_requests.specs.Groups.{false_seen, state_of}
use Rattle.cedar_evaluator.specs.Gathering.{gathered}
use Rattle.cedar_evaluator.proofs.Pushed.{pushed, false_permit, false_forbid}
use Rattle.cedar_evaluator.proofs.gathering.Gathering.put_false.Goals as goal

pub returns-in_ok-push-in-Permit : goal.returns-in_ok-push-in-Permit
returns-in_ok-push-in-Permit c = λ q. false_permit (gathered q c.args.self.now) _ (noted (policy_of c.args.policy.now), state_of c.args.state) _ (pushed false_seen c.args.self.now.false_permits.items _ _ _ c.in_ok-push-in-Permit.ensures.items (ap (λ n. (n, state_of c.args.state)) c.in_ok-id.ensures)) (ap effect_of (sym c.in-Permit.is) ∙ c.effect.ensures)

pub returns-in_ok-push-in-Forbid : goal.returns-in_ok-push-in-Forbid
returns-in_ok-push-in-Forbid c = λ q. false_forbid (gathered q c.args.self.now) _ (noted (policy_of c.args.policy.now), state_of c.args.state) _ (pushed false_seen c.args.self.now.false_forbids.items _ _ _ c.in_ok-push-in-Forbid.ensures.items (ap (λ n. (n, state_of c.args.state)) c.in_ok-id.ensures)) (ap effect_of (sym c.in-Forbid.is) ∙ c.effect.ensures)
