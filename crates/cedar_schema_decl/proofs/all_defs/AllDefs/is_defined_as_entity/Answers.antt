use Rattle.std.proofs.Common.{◌∙◌}
use Rattle.cedar_schema_decl.proofs.Sets.{name_found}
use Rattle.cedar_schema_decl.proofs.all_defs.AllDefs.is_defined_as_entity.Goals as goal

pub returns : goal.returns
returns c = c.contains.ensures ∙ name_found c.args.name.now c.args.self.now.entity_defs.keys
