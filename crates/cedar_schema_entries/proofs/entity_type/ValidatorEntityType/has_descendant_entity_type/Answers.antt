use Rattle.std.proofs.Common.{◌∙◌}
use Rattle.cedar_schema_types.proofs.Unions.{name_among}
use Rattle.cedar_schema_entries.proofs.entity_type.ValidatorEntityType.has_descendant_entity_type.Goals as goal

pub returns : goal.returns
returns c = c.contains.ensures ∙ name_among c.args.ty.now c.args.self.now.descendants.keys
