use Rattle.std.proofs.Common.{◌∙◌}
use Rattle.std.specs.Borrow.{Bor}
use Rattle.cedar_expr_partial.specs.declared.partial_value.PartialValue.{PartialValue}
use Rattle.cedar_expr_values.specs.declared.extension.ExtValue.{ExtValue}
use Rattle.cedar_store_entities.specs.Views.{part_seen, entity_seen}
use Rattle.cedar_gate_conforming.proofs.Placed.{has_part}
use Rattle.cedar_gate_conforming.proofs.attributes.has_attribute.Goals as goal

pub returns : goal.returns
returns c = c.is_some.ensures ∙ has_part (λ (p : Bor (PartialValue ExtValue)). part_seen p.now) c.args.name.now c.get.result (entity_seen c.args.entity.now).attributes c.get.ensures.value
