use Rattle.cedar_schema_built.proofs.Named.{type_got}
use Rattle.cedar_schema_built.proofs.schema.ValidatorSchema.get_entity_type.Goals as goal

pub returns : goal.returns
returns c = type_got c.args.ty.now c.args.self.now.entity_types.entries c.get.result c.args.self.now.types_named c.get.ensures.value
