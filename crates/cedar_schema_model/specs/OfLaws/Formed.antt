-- When a type is below another, and when a type is well-formed.
-- Rule: types; subtypes (docs/RULES.md).
use Rattle.std.specs.Prelude.{◌≡◌, ◌&&◌, List, Bool, true, not}
use Rattle.std.specs.List.{list_all}
use Rattle.std.specs.Ordering.{is_lt}
use Rattle.cedar_expr_model.specs.Name.{Text, Name, is_well_formed}
use Rattle.cedar_expr_model.specs.UidOrder.{name_cmp}
use Rattle.cedar_expr_model.specs.Lists.{is_nil, rises}
use Rattle.cedar_expr_model.specs.Order.{text_cmp}
use Rattle.cedar_schema_model.specs.Types.{Ty, entity_types, set_type, record_type, Attributes, no_attributes, attribute, Mode}
use Rattle.cedar_schema_model.specs.Subtype.{is_subtype}

-- the first type is below the second
abbrev pub Below : Mode → Ty → Ty → Type 0
Below m a b = is_subtype m a b ≡ true

-- A union: at least one name, each well-formed, rising.
abbrev pub is_union : List Name → Bool
is_union ns = not (is_nil ns) && (list_all is_well_formed ns && rises name_cmp ns)

-- the name stands before the first of these
abbrev pub is_before_attributes : Text → Attributes → Bool
is_before_attributes n no_attributes = true
is_before_attributes n (attribute b t r as_) = is_lt (text_cmp n b)

-- A type is well-formed if each union in it is one and the names of the attributes of each record rise.
abbrev mutual
  pub is_well_formed_type : Ty → Bool
  is_well_formed_type (entity_types ns) = is_union ns
  is_well_formed_type (set_type t) = is_well_formed_type t
  is_well_formed_type (record_type as_ o) = are_well_formed_attributes as_
  is_well_formed_type t = true

  pub are_well_formed_attributes : Attributes → Bool
  are_well_formed_attributes no_attributes = true
  are_well_formed_attributes (attribute n t r as_) = is_well_formed_type t && (is_before_attributes n as_ && are_well_formed_attributes as_)
