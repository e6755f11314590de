use Rattle.std.proofs.Common.{map, ap, ◌∙◌}
use Rattle.cedar_schema_entries.specs.Views.{action_seen}
use Rattle.cedar_schema_built.proofs.Putting.{of_values}
use Rattle.cedar_schema_built.proofs.schema.ValidatorSchema.action_ids.Goals as goal

pub returns : goal.returns
returns c = ap (map action_seen) c.values.ensures.rest ∙ of_values action_seen c.args.self.now.action_ids.entries
