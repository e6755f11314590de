-- Stores whose values are in range.
-- Rule: values and equality; the store (docs/RULES.md).
use Rattle.std.specs.Prelude.{◌&&◌, List, Bool, true}
use Rattle.std.specs.List.{list_all}
use Rattle.cedar_expr_model.specs.Name.{Text}
use Rattle.cedar_expr_model.specs.Value.{V}
use Rattle.cedar_expr_model.specs.ValueParts.{Part, known, left}
use Rattle.cedar_expr_model.specs.Uids.{is_text, is_uid}
use Rattle.cedar_expr_model.specs.Ranges.{is_in_range}
use Rattle.cedar_store_model.specs.World.{Entity}
use Rattle.cedar_store_model.specs.Store.{Entities, Store}

-- a part that is a value is in range
abbrev pub is_part_in_range : Part V → Bool
is_part_in_range (known v) = is_in_range v
is_part_in_range (left t) = true

-- each name is made of characters, and each part is in range
abbrev pub are_parts_in_range : List (Text × Part V) → Bool
are_parts_in_range ps = list_all (λ p. is_text p.0 && is_part_in_range p.1) ps

-- the attributes and the tags are in range, and each recorded ancestor is a uid
abbrev pub is_entity_in_range : Entity V → Bool
is_entity_in_range e = are_parts_in_range e.attributes && (are_parts_in_range e.tags && list_all is_uid e.ancestors)

-- each entity is in range and stands under a uid
abbrev pub are_entities_in_range : Entities → Bool
are_entities_in_range es = list_all (λ e. is_uid e.0 && is_entity_in_range e.1) es

-- its entities are in range, and each uid that is recorded as absent is one
abbrev pub is_store_in_range : Store → Bool
is_store_in_range s = are_entities_in_range s.entities && list_all is_uid s.absent
