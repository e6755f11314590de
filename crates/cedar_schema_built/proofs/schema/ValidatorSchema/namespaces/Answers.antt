use Rattle.std.proofs.Common.{map, ap, ◌∙◌}
use Rattle.cedar_schema_built.specs.LocatedViews.{space_listed}
use Rattle.cedar_schema_built.proofs.Putting.{of_values}
use Rattle.cedar_schema_built.proofs.schema.ValidatorSchema.namespaces.Goals as goal

pub returns : goal.returns
returns c = ap (map space_listed) c.values.ensures.rest ∙ of_values space_listed c.args.self.now.names.namespaces.entries
