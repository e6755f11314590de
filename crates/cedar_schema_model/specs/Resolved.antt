-- The schema that declarations make: references resolved, common types replaced.
-- Rule: schemas (docs/RULES.md).
use Rattle.std.specs.Prelude.{ℕ, zero, suc, map, length, Bool, Option, Some, None, find, option_map}
use Rattle.std.specs.Option.{option_map_or}
use Rattle.std.specs.List.{filter_map}
use Rattle.std.specs.Ordering.{match_ordering}
use Rattle.cedar_expr_model.specs.Name.{Text, Name, name_eq}
use Rattle.cedar_expr_model.specs.Order.{text_cmp}
use Rattle.cedar_schema_model.specs.Types.{Ty, never, bool_type, any_bool, long_type, string_type, entity_type, set_type, record_type, extension_type, is_closed, Attributes, no_attributes, attribute}
use Rattle.cedar_schema_model.specs.Schema.{EntityKind, standard, enumerated, external, EntityType, Action, Schema}
use Rattle.cedar_schema_model.specs.Reference.{Namespace, to_entity, Meant, meant_common, meant_entity}
use Rattle.cedar_schema_model.specs.Declarations.{TypeExpr, bool_expr, long_expr, string_expr, set_expr, record_expr, reference, extension_expr, FieldExprs, no_field_exprs, field_expr, KindExpr, standard_expr, enumerated_expr, external_expr, EntityDeclaration, ActionDeclaration, Declarations, common_name, entity_name, action_uid, meant, parent_meant}

-- the attributes with one more, in its place; one of that name that stands already stays
abbrev pub with_attribute : Text → Ty → Bool → Attributes → Attributes
with_attribute a t r no_attributes = attribute a t r no_attributes
with_attribute a t r (attribute b u q as_) = match_ordering (text_cmp a b) (attribute a t r (attribute b u q as_)) (attribute b u q as_) (attribute b u q (with_attribute a t r as_))

-- the type that a reference means; one that means nothing has none
abbrev pub type_meant : (Name → Ty) → Option Meant → Ty
type_meant commons None = never
type_meant commons (Some (meant_common n)) = commons n
type_meant commons (Some (meant_entity n)) = entity_type n

-- A written type with its references resolved, and these types in place of the common ones.
abbrev mutual
  pub resolved_by : (Name → Ty) → Declarations → Namespace → TypeExpr → Ty
  resolved_by commons d ns bool_expr = bool_type any_bool
  resolved_by commons d ns long_expr = long_type
  resolved_by commons d ns string_expr = string_type
  resolved_by commons d ns (set_expr t) = set_type (resolved_by commons d ns t)
  resolved_by commons d ns (record_expr fs) = record_type (resolved_fields_by commons d ns fs) is_closed
  resolved_by commons d ns (reference k n) = type_meant commons (meant d (record { namespace = ns; kind = k; name = n }))
  resolved_by commons d ns (extension_expr n) = extension_type n

  pub resolved_fields_by : (Name → Ty) → Declarations → Namespace → FieldExprs → Attributes
  resolved_fields_by commons d ns no_field_exprs = no_attributes
  resolved_fields_by commons d ns (field_expr a t r fs) = with_attribute a (resolved_by commons d ns t) r (resolved_fields_by commons d ns fs)

-- The type of a common type, replaced this many times; and as often as there are common types.
abbrev pub common_within : ℕ → Declarations → Name → Ty
common_within zero d n = never
common_within (suc m) d n = option_map_or (λ c. resolved_by (common_within m d) d c.namespace c.definition) (find (λ c. name_eq n (common_name c)) d.commons) never

abbrev pub common_of : Declarations → Name → Ty
common_of d n = common_within (length d.commons) d n

-- a written type, resolved
abbrev pub resolved : Declarations → Namespace → TypeExpr → Ty
resolved d ns t = resolved_by (common_of d) d ns t

-- the entity type that a reference means, if it means one
abbrev pub entity_of : Option Meant → Option Name
entity_of (Some (meant_entity n)) = Some n
entity_of o = None

abbrev pub entity_meant : Declarations → Namespace → Name → Option Name
entity_meant d ns n = entity_of (meant d (record { namespace = ns; kind = to_entity; name = n }))

abbrev pub resolved_kind : Declarations → Namespace → KindExpr → EntityKind
resolved_kind d ns (standard_expr fs t) = standard (resolved_fields_by (common_of d) d ns fs) (option_map (resolved d ns) t)
resolved_kind d ns (enumerated_expr ids) = enumerated ids
resolved_kind d ns external_expr = external

abbrev pub resolved_entity : Declarations → EntityDeclaration → EntityType
resolved_entity d t = record { name = entity_name t; parents = filter_map (entity_meant d t.namespace) t.parents; kind = resolved_kind d t.namespace t.kind }

-- the attributes of a record type
abbrev pub attributes_of_record : Ty → Attributes
attributes_of_record (record_type as_ o) = as_
attributes_of_record t = no_attributes

abbrev pub resolved_action : Declarations → ActionDeclaration → Action
resolved_action d a = record {
  uid = action_uid a;
  parents = filter_map (parent_meant d a.namespace) a.parents;
  principals = filter_map (entity_meant d a.namespace) a.principals;
  resources = filter_map (entity_meant d a.namespace) a.resources;
  context = attributes_of_record (resolved d a.namespace a.context);
  is_external = a.is_external;
}

-- the schema of declarations
abbrev pub schema_of : Declarations → Schema
schema_of d = record { types = map (resolved_entity d) d.entities; actions = map (resolved_action d) d.actions }
