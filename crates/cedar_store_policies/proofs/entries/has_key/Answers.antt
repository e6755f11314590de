use Rattle.std.proofs.Common.{◌∙◌}
use Rattle.cedar_store_policies.proofs.Keyed.{key_found}
use Rattle.cedar_store_policies.proofs.entries.has_key.Goals as goal

pub returns : goal.returns
returns g c = c.contains_key.ensures ∙ key_found c.args.id.now c.args.map.now.entries
