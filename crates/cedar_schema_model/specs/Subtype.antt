-- Which types are below which others.
-- Rule: subtypes (docs/RULES.md).
use Rattle.std.specs.Prelude.{◌&&◌, ◌||◌, List, Bool, true, false, not, Option, is_some}
use Rattle.std.specs.Option.{option_map_or}
use Rattle.std.specs.Bool.{beq}
use Rattle.std.specs.List.{list_all, list_any}
use Rattle.cedar_expr_model.specs.Name.{Name, name_eq}
use Rattle.cedar_schema_model.specs.Types.{BoolType, any_bool, only_true, only_false, Openness, is_open, is_closed, Ty, never, bool_type, long_type, string_type, any_entity, entity_types, any_set, set_type, record_type, extension_type, Attributes, no_attributes, attribute, Declared, attribute_named, Mode, strict, permissive}

abbrev pub is_permissive : Mode → Bool
is_permissive strict = false
is_permissive permissive = true

abbrev pub is_closed_record : Openness → Bool
is_closed_record is_open = false
is_closed_record is_closed = true

-- each name of the first list is in the second
abbrev pub are_among : List Name → List Name → Bool
are_among ns ms = list_all (λ n. list_any (name_eq n) ms) ns

-- each name of the first attributes is a name of the second
abbrev pub are_named : Attributes → Attributes → Bool
are_named no_attributes bs = true
are_named (attribute n t r as_) bs = is_some (attribute_named n bs) && are_named as_ bs

-- What is said of the greater is said of the less; in strict mode also the other way round.
abbrev pub carries : Mode → Bool → Bool → Bool
carries permissive less greater = not greater || less
carries strict less greater = beq less greater

-- True and False are below the type of both.
abbrev pub is_bool_below : BoolType → BoolType → Bool
is_bool_below a any_bool = true
is_bool_below only_true only_true = true
is_bool_below only_false only_false = true
is_bool_below a b = false

-- A union is below each larger one; in strict mode below itself alone.
abbrev pub is_union_below : Mode → List Name → List Name → Bool
is_union_below permissive ns ms = are_among ns ms
is_union_below strict ns ms = are_among ns ms && are_among ms ns

-- A closed record has closed records of the same names below it. In strict mode all have the same names, and all are open or none is.
abbrev pub is_frame_below : Mode → Attributes → Openness → Attributes → Openness → Bool
is_frame_below m as_ o bs p = carries m (is_closed_record o) (is_closed_record p) && ((is_permissive m && not (is_closed_record p)) || are_named as_ bs)

-- The attribute is declared, with a type that passes, and required where that is asked.
abbrev pub is_declared_below : Mode → (Ty → Bool) → Bool → Option Declared → Bool
is_declared_below m test r declared = option_map_or (λ d. test d.type && carries m d.is_required r) declared false

-- `never` is below all types. A set is below the sets of a greater element type, and below `any_set`. A record is below
-- another if it has all the other's attributes, each of a type below, and is as closed as the other.
abbrev mutual
  pub is_subtype : Mode → Ty → Ty → Bool
  is_subtype m never b = true
  is_subtype m (bool_type a) (bool_type b) = is_bool_below a b
  is_subtype m long_type long_type = true
  is_subtype m string_type string_type = true
  is_subtype m any_entity any_entity = true
  is_subtype m (entity_types ns) any_entity = is_permissive m
  is_subtype m (entity_types ns) (entity_types ms) = is_union_below m ns ms
  is_subtype m any_set any_set = true
  is_subtype m (set_type a) any_set = true
  is_subtype m (set_type a) (set_type b) = is_subtype m a b
  is_subtype m (record_type as_ o) (record_type bs p) = is_frame_below m as_ o bs p && have_below m as_ bs
  is_subtype m (extension_type k) (extension_type n) = name_eq k n
  is_subtype m a b = false

  -- the first attributes have each of the second, with a type below its type
  pub have_below : Mode → Attributes → Attributes → Bool
  have_below m as_ no_attributes = true
  have_below m as_ (attribute n t r bs) = is_declared_below m (λ a. is_subtype m a t) r (attribute_named n as_) && have_below m as_ bs
