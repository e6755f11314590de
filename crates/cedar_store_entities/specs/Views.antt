-- What code entities are as the model's: with the calls that make their extension values, and without; and their places.
-- Rule: the store (docs/RULES.md).
use Rattle.std.specs.Prelude.{List, map, Option}
use Rattle.std.specs.List.{zip}
use Rattle.std.specs.Rc.{rc_str_bytes}
use Rattle.std.specs.declared.alloc.Global.{Global}
use Rattle.std.specs.declared.rc.RcStr.{RcStr}
use Rattle.cedar_expr_names.specs.Views.{uid_of}
use Rattle.cedar_expr_names.specs.declared.loc.Loc.{Loc}
use Rattle.cedar_expr_model.specs.Name.{Text}
use Rattle.cedar_expr_model.specs.Uid.{Uid}
use Rattle.cedar_expr_model.specs.Made.{Made, bare}
use Rattle.cedar_expr_model.specs.Value.{V}
use Rattle.cedar_expr_model.specs.ValueParts.{Part, known, left}
use Rattle.cedar_expr_values.specs.Extensions.{extension_of}
use Rattle.cedar_expr_values.specs.Values.{made, place_of}
use Rattle.cedar_expr_values.specs.declared.extension.ExtValue.{ExtValue}
use Rattle.cedar_expr_values.specs.declared.value.Value.{Value}
use Rattle.cedar_expr_partial.specs.Parts.{part_of, part_place}
use Rattle.cedar_expr_partial.specs.declared.partial_value.PartialValue.{PartialValue}
use Rattle.cedar_store_model.specs.World as model
use Rattle.cedar_store_entities.specs.Recorded.{Kin, uids_of_kin}
use Rattle.cedar_store_entities.specs.Uids.{uids_in}
use Rattle.cedar_store_entities.specs.declared.ancestors.Ancestors.{Ancestors}
use Rattle.cedar_store_entities.specs.declared.entity.Entity.{Entity}

-- an attribute or a tag, as it was made
abbrev pub part_seen : PartialValue ExtValue → Part Made
part_seen p = part_of extension_of p

-- one with its name; and a value with its name
abbrev pub part_pair : RcStr Global × PartialValue ExtValue → Text × Part Made
part_pair p = (rc_str_bytes p.0, part_seen p.1)

abbrev pub value_pair : RcStr Global × Value ExtValue → Text × Part Made
value_pair p = (rc_str_bytes p.0, known (made extension_of p.1))

-- where the one and the other stand in their source, with their names
abbrev pub placed_part : RcStr Global × PartialValue ExtValue → Text × Option Loc
placed_part p = (rc_str_bytes p.0, part_place p.1)

abbrev pub placed_value : RcStr Global × Value ExtValue → Text × Option Loc
placed_value p = (rc_str_bytes p.0, place_of p.1)

-- the names of attributes or tags
abbrev pub names_in : {A : Type 0} → List (Text × A) → List Text
names_in ps = map (λ p. p.0) ps

abbrev pub entity_uid : Entity → Uid
entity_uid e = uid_of e.uid

-- the recorded ancestors, each with whether it is a parent
abbrev pub kin_in : Ancestors → Kin
kin_in a = zip (uids_in a.uids) a.are_parents.items

abbrev pub kin_seen : Entity → Kin
kin_seen e = kin_in e.ancestors

-- the entity, its values as they were made
abbrev pub entity_seen : Entity → model.Entity Made
entity_seen e = record { attributes = map part_pair e.attrs.entries; tags = map part_pair e.tags.entries; ancestors = uids_of_kin (kin_seen e) }

-- where parts stand in their source, by their names
abbrev pub Places : Type 0
Places = List (Text × Option Loc)

abbrev pub attribute_places : Entity → Places
attribute_places e = map placed_part e.attrs.entries

abbrev pub tag_places : Entity → Places
tag_places e = map placed_part e.tags.entries

-- all that its readers tell: the values as they were made, of each recorded ancestor whether it is a parent, and the places of the
-- attributes and of the tags
abbrev pub Kept : Type 0
Kept = model.Entity Made × Kin × Places × Places

abbrev pub entity_kept : Entity → Kept
entity_kept e = (entity_seen e, kin_seen e, attribute_places e, tag_places e)

-- with its uid
abbrev pub kept_pair : Entity → Uid × Kept
kept_pair e = (entity_uid e, entity_kept e)

-- a part and an entity without the calls that make extension values
abbrev pub bare_part : Part Made → Part V
bare_part (known m) = known (bare m)
bare_part (left t) = left t

abbrev pub bare_entity : model.Entity Made → model.Entity V
bare_entity e = record { attributes = map (λ p. (p.0, bare_part p.1)) e.attributes; tags = map (λ p. (p.0, bare_part p.1)) e.tags; ancestors = e.ancestors }

-- the entity as the model's
abbrev pub entity_of : Entity → model.Entity V
entity_of e = bare_entity (entity_seen e)

-- with its uid
abbrev pub entity_pair : Entity → Uid × model.Entity V
entity_pair e = (entity_uid e, entity_of e)
