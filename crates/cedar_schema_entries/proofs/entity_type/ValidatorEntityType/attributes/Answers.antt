use Rattle.cedar_schema_types.specs.Types.{attributes_of}
use Rattle.cedar_schema_entries.proofs.Attributed.{its_attributes}
use Rattle.cedar_schema_entries.proofs.entity_type.ValidatorEntityType.attributes.Goals as goal

pub returns : goal.returns
returns c = its_attributes (attributes_of c.args.self.now.attributes) c.args.self.now.kind c.args.self.now.attributed
