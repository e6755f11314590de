-- Joins: the type that two types have in common above them, and types without a common value.
-- Rule: joins (docs/RULES.md).
use Rattle.std.specs.Prelude.{◌&&◌, ◌||◌, List, [], ◌∷◌, fold, Bool, false, not, Option, Some, None, option_map, option_and_then, if◌then◌else◌}
use Rattle.std.specs.Option.{option_map_or}
use Rattle.std.specs.Bool.{beq}
use Rattle.std.specs.List.{list_any}
use Rattle.std.specs.Ordering.{match_ordering}
use Rattle.cedar_expr_model.specs.Name.{Text, Name, name_eq}
use Rattle.cedar_expr_model.specs.UidOrder.{name_cmp}
use Rattle.cedar_schema_model.specs.Types.{BoolType, any_bool, only_true, only_false, Openness, is_open, is_closed, Ty, never, bool_type, long_type, string_type, any_entity, entity_types, any_set, set_type, record_type, extension_type, Attributes, no_attributes, attribute, Declared, attribute_named, Mode}
use Rattle.cedar_schema_model.specs.Subtype.{is_permissive, is_closed_record, are_among, are_named}

abbrev pub bool_join : BoolType → BoolType → BoolType
bool_join only_true only_true = only_true
bool_join only_false only_false = only_false
bool_join a b = any_bool

-- the names with one more, in its place
abbrev pub name_inserted : Name → List Name → List Name
name_inserted n [] = n ∷ []
name_inserted n (m ∷ ms) = match_ordering (name_cmp n m) (n ∷ m ∷ ms) (m ∷ ms) (m ∷ name_inserted n ms)

-- the names of both lists
abbrev pub names_of_both : List Name → List Name → List Name
names_of_both [] ms = ms
names_of_both (n ∷ ns) ms = name_inserted n (names_of_both ns ms)

-- In strict mode only the same union joins.
abbrev pub union_join : Mode → List Name → List Name → Option Ty
union_join m ns ms = if is_permissive m || (are_among ns ms && are_among ms ns) then Some (entity_types (names_of_both ns ms)) else None

-- In strict mode both or neither.
abbrev pub agree : Mode → Bool → Bool → Bool
agree m x y = is_permissive m || beq x y

-- what is declared of an attribute in common: the join of its types, required where both require it
abbrev pub declared_in_common : Mode → Bool → Bool → Option Ty → Option Declared
declared_in_common m r s joined = option_and_then (λ t. if agree m r s then Some (record { type = t; is_required = r && s }) else None) joined

abbrev pub joined_with : Mode → Bool → (Ty → Option Ty) → Option Declared → Option Declared
joined_with m r join_type declared = option_and_then (λ d. declared_in_common m r d.is_required (join_type d.type)) declared

abbrev pub kept_attribute : Text → Option Declared → Attributes → Attributes
kept_attribute n declared js = option_map_or (λ d. attribute n d.type d.is_required js) declared js

-- all names of both are names of the join
abbrev pub all_stayed : Attributes → Attributes → Attributes → Bool
all_stayed as_ bs js = are_named as_ js && are_named bs js

-- A join of records is closed where both are closed and all names stayed. In strict mode all must stay, and both are open or neither is.
abbrev pub record_join : Mode → Attributes → Openness → Attributes → Openness → Attributes → Option Ty
record_join m as_ o bs p js =
    if agree m (is_closed_record o) (is_closed_record p) && (is_permissive m || all_stayed as_ bs js)
    then Some (record_type js (if is_closed_record o && (is_closed_record p && all_stayed as_ bs js) then is_closed else is_open))
    else None

-- Of two types of which one is below the other the join is the greater. True and False join to the type of both, unions to
-- their union, sets by their elements, and records keep the attributes that join. Others have none.
abbrev mutual
  pub join : Mode → Ty → Ty → Option Ty
  join m never b = Some b
  join m a never = Some a
  join m (bool_type a) (bool_type b) = Some (bool_type (bool_join a b))
  join m long_type long_type = Some long_type
  join m string_type string_type = Some string_type
  join m any_entity any_entity = Some any_entity
  join m any_entity (entity_types ms) = if is_permissive m then Some any_entity else None
  join m (entity_types ns) any_entity = if is_permissive m then Some any_entity else None
  join m (entity_types ns) (entity_types ms) = union_join m ns ms
  join m any_set any_set = Some any_set
  join m any_set (set_type b) = Some any_set
  join m (set_type a) any_set = Some any_set
  join m (set_type a) (set_type b) = option_map set_type (join m a b)
  join m (record_type as_ o) (record_type bs p) = record_join m as_ o bs p (attributes_join m as_ bs)
  join m (extension_type k) (extension_type n) = if name_eq k n then Some (extension_type k) else None
  join m a b = None

  pub attributes_join : Mode → Attributes → Attributes → Attributes
  attributes_join m no_attributes bs = no_attributes
  attributes_join m (attribute n t r as_) bs = kept_attribute n (joined_with m r (join m t) (attribute_named n bs)) (attributes_join m as_ bs)

-- The join of all these, one after the other; of none, `never`.
abbrev pub reduce_to_join : Mode → List Ty → Option Ty
reduce_to_join m ts = fold (λ joined t. option_and_then (λ j. join m j t) joined) (Some never) ts

-- No value is of both: two unions with no common member.
abbrev pub are_disjoint : Ty → Ty → Bool
are_disjoint (entity_types ns) (entity_types ms) = not (list_any (λ n. list_any (name_eq n) ms) ns)
are_disjoint a b = false
