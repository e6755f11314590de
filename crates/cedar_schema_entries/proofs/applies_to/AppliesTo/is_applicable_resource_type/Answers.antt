use Rattle.std.proofs.Common.{◌∙◌}
use Rattle.cedar_schema_types.proofs.Unions.{name_among}
use Rattle.cedar_schema_entries.proofs.applies_to.AppliesTo.is_applicable_resource_type.Goals as goal

pub returns : goal.returns
returns c = c.contains.ensures ∙ name_among c.args.ty.now c.args.self.now.resources.keys
