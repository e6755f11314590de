use Rattle.cedar_schema_built.proofs.Named.{action_got}
use Rattle.cedar_schema_built.proofs.schema.ValidatorSchema.get_action_id.Goals as goal

pub returns : goal.returns
returns c = action_got c.args.action.now c.args.self.now.action_ids.entries c.get.result c.args.self.now.actions_named c.get.ensures.value
