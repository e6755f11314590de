use Rattle.std.proofs.Common.{◌≡◌}
use Rattle.cedar_gate_model.specs.Asked.{has_wrong_tag}
use Rattle.cedar_store_entities.specs.Views.{entity_of}
use Rattle.cedar_gate_conforming.specs.Parts.{parts_left}
use Rattle.cedar_gate_conforming.specs.Views.{type_seen}
use Rattle.cedar_gate_conforming.proofs.tags.has_wrong_tag.Given as goal

abbrev pub invariant-loop-name : goal.invariant-loop-name
invariant-loop-name l = has_wrong_tag (type_seen l.tags) (parts_left l._name-iterator) ≡ has_wrong_tag (type_seen l.tags) (entity_of l.entity).tags
