use Rattle.std.proofs.Common.{◌≡◌}
use Rattle.cedar_gate_model.specs.Asked.{has_wrong_value}
use Rattle.cedar_schema_types.specs.Types.{attributes_of}
use Rattle.cedar_store_entities.specs.Views.{entity_of}
use Rattle.cedar_gate_conforming.specs.Parts.{parts_left}
use Rattle.cedar_gate_conforming.proofs.attributes.has_wrong_value.Given as goal

abbrev pub invariant-loop-name : goal.invariant-loop-name
invariant-loop-name l = has_wrong_value (attributes_of l.attributes) (parts_left l.name-iterator) ≡ has_wrong_value (attributes_of l.attributes) (entity_of l.entity).attributes
