use Rattle.std.proofs.Common.{◌∙◌}
use Rattle.cedar_schema_joins.proofs.Asking.{tree_field_there}
use Rattle.cedar_schema_joins.proofs.restricted.has_field.Goals as goal

pub returns : goal.returns
returns g c = c.contains_key.ensures ∙ tree_field_there c.args.name.now c.args.pairs.now.entries
