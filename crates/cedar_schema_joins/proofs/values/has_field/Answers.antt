use Rattle.std.proofs.Common.{◌∙◌}
use Rattle.cedar_schema_joins.proofs.Fitting.{field_there}
use Rattle.cedar_schema_joins.proofs.values.has_field.Goals as goal

pub returns : goal.returns
returns g c = c.contains_key.ensures ∙ field_there g.X.ExtensionValue.seen c.args.name.now c.args.pairs.now.entries
