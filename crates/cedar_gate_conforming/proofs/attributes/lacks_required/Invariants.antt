use Rattle.std.proofs.Common.{◌≡◌}
use Rattle.cedar_gate_model.specs.Asked.{lacks_required}
use Rattle.cedar_schema_types.specs.AttributeLists.{attributes_from, declared_pairs}
use Rattle.cedar_schema_types.specs.Types.{attributes_of}
use Rattle.cedar_store_entities.specs.Views.{entity_of}
use Rattle.cedar_gate_conforming.proofs.attributes.lacks_required.Given as goal

abbrev pub invariant-loop-name : goal.invariant-loop-name
invariant-loop-name l = lacks_required (attributes_from (declared_pairs l.name-iterator)) (entity_of l.entity).attributes ≡ lacks_required (attributes_of l.attributes) (entity_of l.entity).attributes
