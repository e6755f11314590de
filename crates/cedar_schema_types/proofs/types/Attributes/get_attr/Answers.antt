use Rattle.std.proofs.Common.{ap}
use Rattle.cedar_schema_types.proofs.Found.{attribute_found}
use Rattle.cedar_schema_types.proofs.types.Attributes.get_attr.Goals as goal

pub returns : goal.returns
returns c = attribute_found c.args.attr.now c.args.self.now c.deref.result.now.entries c.get.result (ap (λ m. m.entries) c.deref.ensures) c.get.ensures.value
