use Rattle.std.proofs.Common.{rules}
use Rattle.cedar_store_policies.specs.TemplateParts.{made_of}
use Rattle.cedar_store_policies.proofs.Conditions.{found_in_turn}
use Rattle.cedar_store_policies.proofs.template_body.TemplateBody.slots.Goals as goal

pub returns-clause-ids : goal.returns-clause-ids
returns-clause-ids c = found_in_turn (made_of c.args.self.now) _ _ _ _ (search rules) c.in_ok-push_asked.ensures.ids c.in_ok-push_asked-2.ensures.ids c.in_ok-push_body.ensures.ids
