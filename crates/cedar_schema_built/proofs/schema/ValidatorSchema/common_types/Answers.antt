use Rattle.std.proofs.Common.{map, ap, ◌∙◌}
use Rattle.cedar_schema_built.specs.LocatedViews.{common_listed}
use Rattle.cedar_schema_built.proofs.Putting.{of_values}
use Rattle.cedar_schema_built.proofs.schema.ValidatorSchema.common_types.Goals as goal

pub returns : goal.returns
returns c = ap (map common_listed) c.values.ensures.rest ∙ of_values common_listed c.args.self.now.names.common_types.entries
