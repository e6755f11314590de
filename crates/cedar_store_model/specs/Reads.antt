-- What is read of a store at the values of the operands: attributes, tags and ancestors. Where what is known gives no answer
-- there is none.
-- Rule: the meaning; the store (docs/RULES.md).
use Rattle.std.specs.Prelude.{◌||◌, List, [], ◌∷◌, false, Option, Some, None, is_some, option_map}
use Rattle.std.specs.Option.{option_map_or}
use Rattle.std.specs.List.{list_any}
use Rattle.std.specs.Map.{lookup}
use Rattle.std.specs.Str.{bytes_eq}
use Rattle.cedar_expr_model.specs.Name.{Text}
use Rattle.cedar_expr_model.specs.Uid.{Uid, uid_eq}
use Rattle.cedar_expr_model.specs.Lists.{all_given}
use Rattle.cedar_expr_model.specs.Value.{text, entity, V, prim, set_of, record_of, values_list, field_of}
use Rattle.cedar_store_model.specs.Outcome.{Res, val, err, missing_entity, missing_attribute_or_tag, missing_field, wrong_type}
use Rattle.cedar_expr_model.specs.ValueParts.{Part, known_value}
use Rattle.cedar_store_model.specs.World.{World, Entity, Found, by_found}
use Rattle.cedar_store_model.specs.Operators.{says}

-- the value of a part, if it has one by now
abbrev pub part_value : Option (Part V) → Option (Res V)
part_value found = option_map_or (λ p. option_map val (known_value p)) found (Some (err missing_attribute_or_tag))

-- an attribute, or a tag, of an entity that was looked up
abbrev pub part_read : (Entity V → List (Text × Part V)) → Uid → Text → Found V → Option (Res V)
part_read parts u a found = by_found (λ e. part_value (lookup (bytes_eq a) (parts e))) (Some (err (missing_entity u))) None found

-- whether it is there; a missing entity has none
abbrev pub part_tested : (Entity V → List (Text × Part V)) → Uid → Text → Found V → Option (Res V)
part_tested parts u a found = by_found (λ e. Some (says (is_some (lookup (bytes_eq a) (parts e))))) (Some (says false)) None found

-- the attribute of an entity, or the field of a record
abbrev pub attribute_read : World → Text → V → Option (Res V)
attribute_read w a (prim (entity u)) = part_read (λ e. e.attributes) u a (w.store u)
attribute_read w a (record_of fs) = Some (option_map_or val (field_of a fs) (err missing_field))
attribute_read w a v = Some (err wrong_type)

abbrev pub attribute_tested : World → Text → V → Option (Res V)
attribute_tested w a (prim (entity u)) = part_tested (λ e. e.attributes) u a (w.store u)
attribute_tested w a (record_of fs) = Some (says (is_some (field_of a fs)))
attribute_tested w a v = Some (err wrong_type)

-- a tag of an entity, whose name is a text: its value, and whether it is there
abbrev pub tag_asked : (Uid → Text → Found V → Option (Res V)) → World → V → V → Option (Res V)
tag_asked ask w (prim (entity u)) (prim (text a)) = ask u a (w.store u)
tag_asked ask w v v' = Some (err wrong_type)

-- the uid that a value is
abbrev pub uid_of : V → Option Uid
uid_of (prim (entity u)) = Some u
uid_of v = None

-- the uids of an entity, or of a set of entities
abbrev pub uids_in : V → Option (List Uid)
uids_in (set_of vs) = all_given uid_of (values_list vs)
uids_in v = option_map (λ u. u ∷ []) (uid_of v)

-- the uid is one of these or has one of them as a recorded ancestor
abbrev pub is_in_some : List Uid → Uid → Option (List Uid) → Res V
is_in_some ancestors u us = option_map_or (λ vs. says (list_any (λ v. uid_eq u v || list_any (uid_eq v) ancestors) vs)) us (err wrong_type)

-- what `in` answers where its left uid was looked up; a missing entity has no ancestors
abbrev pub found_in : Uid → V → Found V → Option (Res V)
found_in u v found = by_found (λ e. Some (is_in_some e.ancestors u (uids_in v))) (Some (is_in_some [] u (uids_in v))) None found

abbrev pub within : World → V → V → Option (Res V)
within w (prim (entity u)) v = found_in u v (w.store u)
within w v v' = Some (err wrong_type)
