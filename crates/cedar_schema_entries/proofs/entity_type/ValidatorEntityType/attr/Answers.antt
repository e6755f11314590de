use Rattle.std.proofs.Common.{ap, ◌∙◌}
use Rattle.cedar_schema_model.specs.Types.{attribute_named}
use Rattle.cedar_schema_types.specs.Types.{attributes_of}
use Rattle.cedar_schema_entries.proofs.Attributed.{its_attributes}
use Rattle.cedar_schema_entries.proofs.entity_type.ValidatorEntityType.attr.Goals as goal

pub returns : goal.returns
returns c = c.get_attr.ensures ∙ ap (attribute_named c.args.attr.now) (its_attributes (attributes_of c.args.self.now.attributes) c.args.self.now.kind c.args.self.now.attributed)
