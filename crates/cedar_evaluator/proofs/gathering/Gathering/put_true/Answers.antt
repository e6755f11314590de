use Rattle.std.proofs.Common.{ap, sym, ◌∙◌}
use Rattle.cedar_store_parts.specs.Parts.{effect_of}
use Rattle.cedar_store_policies.specs.Policies.{policy_of}
use Rattle.cedar_evaluator_model.specs.Response.{noted}
use Rattle.cedar_evaluator_requests.specs.Groups.{noted_seen}
use Rattle.cedar_evaluator.specs.Gathering.{gathered}
use Rattle.cedar_evaluator.proofs.Pushed.{pushed, true_permit, true_forbid}
use Rattle.cedar_evaluator.proofs.gathering.Gathering.put_true.Goals as goal

pub returns-in_ok-push-in-Permit : goal.returns-in_ok-push-in-Permit
returns-in_ok-push-in-Permit c = λ q. true_permit (gathered q c.args.self.now) _ (noted (policy_of c.args.policy.now)) _ (pushed noted_seen c.args.self.now.true_permits.items _ _ _ c.in_ok-push-in-Permit.ensures.items c.in_ok-entry.ensures) (ap effect_of (sym c.in-Permit.is) ∙ c.effect.ensures)

pub returns-in_ok-push-in-Forbid : goal.returns-in_ok-push-in-Forbid
returns-in_ok-push-in-Forbid c = λ q. true_forbid (gathered q c.args.self.now) _ (noted (policy_of c.args.policy.now)) _ (pushed noted_seen c.args.self.now.true_forbids.items _ _ _ c.in_ok-push-in-Forbid.ensures.items c.in_ok-entry.ensures) (ap effect_of (sym c.in-Forbid.is) ∙ c.effect.ensures)
