use Rattle.std.proofs.Common.{◌∙◌}
use Rattle.cedar_schema_entries.proofs.Among.{uid_among}
use Rattle.cedar_schema_entries.proofs.action.ValidatorActionId.has_descendant.Goals as goal

pub returns : goal.returns
returns c = c.contains.ensures ∙ uid_among c.args.uid.now c.args.self.now.descendants.keys
