use Rattle.std.proofs.Common.{◌∙◌}
use Rattle.cedar_gate_fragments.proofs.types.add_attribute.Goals as goal

pub returns : goal.returns
returns c = (c.in_ok-name.name, c.in_ok-name.ensures.ok ∙ c.as_str.ensures.value, c.in_ok-insert.ensures.entries)
