use Rattle.std.proofs.Common.{◌∙◌}
use Rattle.cedar_schema_decl.proofs.Sets.{uid_found}
use Rattle.cedar_schema_decl.proofs.all_defs.AllDefs.is_defined_as_action.Goals as goal

pub returns : goal.returns
returns c = c.contains.ensures ∙ uid_found c.args.uid.now c.args.self.now.action_defs.keys
