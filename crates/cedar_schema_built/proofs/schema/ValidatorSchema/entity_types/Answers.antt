use Rattle.std.proofs.Common.{map, ap, ◌∙◌}
use Rattle.cedar_schema_entries.specs.Views.{entity_type_seen}
use Rattle.cedar_schema_built.proofs.Putting.{of_values}
use Rattle.cedar_schema_built.proofs.schema.ValidatorSchema.entity_types.Goals as goal

pub returns : goal.returns
returns c = ap (map entity_type_seen) c.values.ensures.rest ∙ of_values entity_type_seen c.args.self.now.entity_types.entries
