-- What stands in the place of declarations as they are written: full names, and with each name what it may stand for.
-- Rule: references; declarations (docs/RULES.md).
use Rattle.std.specs.Prelude.{List, [], ◌∷◌, map, Option, find, option_map}
use Rattle.std.specs.Option.{option_map_or}
use Rattle.std.specs.declared.result.Result.{Result}
use Rattle.std.specs.declared.result.Result.TheVariants.{Ok, Err}
use Rattle.cedar_expr_model.specs.Name.{Text, Name, is_reserved}
use Rattle.cedar_expr_model.specs.Uid.{Uid}
use Rattle.cedar_schema_model.specs.Reference.{ReferenceKind, to_entity, name_in, action_in}
use Rattle.cedar_schema_decl.specs.Conditional.{Conditional, conditional_in}
use Rattle.cedar_schema_decl.specs.Forms.{TypeForm, bool_form, long_form, string_form, set_form, record_form, reference_form, extension_form, FieldForms, no_field_forms, field_form, EntityForm, standard_form, enumerated_form, external_form, ActionForm}
use Rattle.cedar_schema_decl.specs.Laws.{namespace_parts}
use Rattle.cedar_schema_decl.specs.Requalified.{and_then}
use Rattle.cedar_schema_fragments.specs.Namespaces.{NamespaceForm}
use Rattle.cedar_schema_fragments.specs.Refusals.{Refusal, reserved_type}
use Rattle.cedar_schema_fragments.specs.Written.{WrittenNamespace}

-- a type with other names, what is due given with each
abbrev mutual
  pub type_with : {A B : Type 0} → (ReferenceKind → A → B) → TypeForm A → TypeForm B
  type_with f bool_form = bool_form
  type_with f long_form = long_form
  type_with f string_form = string_form
  type_with f (set_form t) = set_form (type_with f t)
  type_with f (record_form fs) = record_form (fields_with f fs)
  type_with f (reference_form k a) = reference_form k (f k a)
  type_with f (extension_form n) = extension_form n

  pub fields_with : {A B : Type 0} → (ReferenceKind → A → B) → FieldForms A → FieldForms B
  fields_with f no_field_forms = no_field_forms
  fields_with f (field_form a t r fs) = field_form a (type_with f t) r (fields_with f fs)

-- an entity type
abbrev pub entity_with : {A B : Type 0} → (ReferenceKind → A → B) → EntityForm A → EntityForm B
entity_with f (standard_form ps fs t) = standard_form (map (f to_entity) ps) (fields_with f fs) (option_map (type_with f) t)
entity_with f (enumerated_form ids) = enumerated_form ids
entity_with f (external_form ps) = external_form (map (f to_entity) ps)

-- the parent of an action, and an action
abbrev pub parent_with : {A B : Type 0} → (ReferenceKind → A → B) → A × Text → B × Text
parent_with f p = (f to_entity p.0, p.1)

abbrev pub action_with : {A B : Type 0} → (ReferenceKind → A → B) → ActionForm A (A × Text) → ActionForm B (B × Text)
action_with f a = record {
  parents = map (parent_with f) a.parents;
  principals = map (f to_entity) a.principals;
  resources = map (f to_entity) a.resources;
  context = type_with f a.context;
  is_external = a.is_external;
}

-- what is declared in a namespace, if it has a name, under a word or an id
abbrev pub full_name : Option Name → Text → Name
full_name space word = name_in (namespace_parts space) word

abbrev pub full_uid : Option Name → Text → Uid
full_uid space id = action_in (namespace_parts space) id

-- under its full name, with what each name may stand for: a common type, an entity type, and an action
abbrev pub common_qualified : Option Name → Text × TypeForm Name → Name × TypeForm Conditional
common_qualified space c = (full_name space c.0, type_with (conditional_in space) c.1)

abbrev pub entity_qualified : Option Name → Text × EntityForm Name → Name × EntityForm Conditional
entity_qualified space t = (full_name space t.0, entity_with (conditional_in space) t.1)

abbrev pub action_qualified : Option Name → Text × ActionForm Name (Name × Text) → Uid × ActionForm Conditional (Conditional × Text)
action_qualified space a = (full_uid space a.0, action_with (conditional_in space) a.1)

-- an action under its uid, of this type
abbrev pub action_typed : Option Name → Name → Text × ActionForm Name (Name × Text) → Uid × ActionForm Conditional (Conditional × Text)
action_typed space kind a = (record { kind = kind; id = a.0 }, action_with (conditional_in space) a.1)

-- a common type whose names may stand for one of several already, and a namespace that declares common types alone
abbrev pub common_named : Option Name → Text × TypeForm Conditional → Name × TypeForm Conditional
common_named space c = (full_name space c.0, c.1)

abbrev pub commons_alone : {A P : Type 0} → Option Name → List (Name × TypeForm A) → NamespaceForm A P
commons_alone space cs = record { namespace = space; commons = cs; entities = []; actions = [] }

-- the namespace that declares these common types alone, or this one
abbrev pub commons_namespace : {P : Type 0} → Option Name → List (Text × TypeForm Conditional) → NamespaceForm Conditional P
commons_namespace space cs = commons_alone space (map (common_named space) cs)

abbrev pub common_namespace : {P : Type 0} → Option Name → Text × TypeForm Conditional → NamespaceForm Conditional P
common_namespace space c = commons_alone space (common_named space c ∷ [])

-- the type of these actions, where it is reserved
abbrev pub reserved_action : {X : Type 0} → Option Name → List (Text × X) → Option Name
reserved_action space as_ = find is_reserved (map (λ a. (full_uid space a.0).kind) as_)

-- the actions; those of a reserved type are refused
abbrev pub actions_qualified : Option Name → List (Text × ActionForm Name (Name × Text)) → Result (List (Uid × ActionForm Conditional (Conditional × Text))) Refusal
actions_qualified space as_ = option_map_or (λ n. Err (reserved_type n)) (reserved_action space as_) (Ok (map (action_qualified space) as_))

-- What a namespace declares, with these actions.
abbrev pub qualified_with : WrittenNamespace → List (Uid × ActionForm Conditional (Conditional × Text)) → NamespaceForm Conditional (Conditional × Text)
qualified_with w us = record {
  namespace = w.namespace;
  commons = map (common_qualified w.namespace) w.commons;
  entities = map (entity_qualified w.namespace) w.entities;
  actions = us;
}

abbrev pub namespace_qualified : WrittenNamespace → Result (NamespaceForm Conditional (Conditional × Text)) Refusal
namespace_qualified w = and_then (λ us. Ok (qualified_with w us)) (actions_qualified w.namespace w.actions)
