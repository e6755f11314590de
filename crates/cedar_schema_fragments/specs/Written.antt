-- Declarations as they are written: in a namespace, under words and ids.
-- Rule: declarations (docs/RULES.md).
use Rattle.std.specs.Prelude.{Bool, true, false, List, [], ◌∷◌, Option, map, option_map}
use Rattle.std.specs.Option.{option_map_or}
use Rattle.std.specs.Rc.{rc_str_bytes}
use Rattle.std.specs.declared.alloc.Global.{Global}
use Rattle.std.specs.declared.rc.RcStr.{RcStr}
use Rattle.cedar_expr_model.specs.Name.{Text, Name}
use Rattle.cedar_expr_names.specs.Views.{id_text, name_of}
use Rattle.cedar_expr_names.specs.declared.id.Id.{Id}
use Rattle.cedar_expr_names.specs.declared.internal_name.InternalName.{InternalName}
use Rattle.cedar_expr_leaves.specs.Views.{raw_name_of}
use Rattle.cedar_expr_leaves.specs.declared.raw_name.RawName.{RawName}
use Rattle.cedar_expr_leaves.specs.declared.conditional_name.ConditionalName.{ConditionalName}
use Rattle.cedar_schema_decl.specs.Conditional.{Conditional, conditional_of}
use Rattle.cedar_schema_decl.specs.Forms.{TypeForm, record_form, no_field_forms, EntityForm, standard_form, enumerated_form, external_form, ActionForm}
use Rattle.cedar_schema_decl.specs.Definitions.{common_form}
use Rattle.cedar_schema_decl.specs.Trees.{type_form, record_fields}
use Rattle.cedar_schema_decl.specs.declared.json_schema.ActionType.{ActionType}
use Rattle.cedar_schema_decl.specs.declared.json_schema.ActionTypeKind.{ActionTypeKind}
use Rattle.cedar_schema_decl.specs.declared.json_schema.ActionTypeKind.TheVariants as action
use Rattle.cedar_schema_decl.specs.declared.json_schema.CommonType.{CommonType}
use Rattle.cedar_schema_decl.specs.declared.json_schema.EntityType.{EntityType}
use Rattle.cedar_schema_decl.specs.declared.json_schema.EntityTypeKind.{EntityTypeKind}
use Rattle.cedar_schema_decl.specs.declared.json_schema.EntityTypeKind.TheVariants.{Standard, Enum, External}
use Rattle.cedar_schema_decl.specs.declared.json_schema.Fragment.{Fragment}
use Rattle.cedar_schema_decl.specs.declared.json_schema.NamespaceDefinition.{NamespaceDefinition}
use Rattle.cedar_schema_fragments.specs.Actions.{parent_form}

-- A namespace, which is the empty one where it has no name, with what it declares under words and ids.
pub record WrittenNamespace : Type 0 where
  pub namespace : Option Name
  pub commons : List (Text × TypeForm Name)
  pub entities : List (Text × EntityForm Name)
  pub actions : List (Text × ActionForm Name (Name × Text))

-- an entity type
abbrev pub kind_form : {N A : Type 0} → (N → A) → EntityTypeKind N → EntityForm A
kind_form f (Standard ps fs t) = standard_form (map f ps.items) (record_fields f fs) (option_map (type_form f) t)
kind_form f (Enum ids) = enumerated_form (rc_str_bytes ids.head ∷ map rc_str_bytes ids.tail.items)
kind_form f (External ps) = external_form (map f ps.items)

-- What an action applies to, and its context. One that applies to nothing has the empty record as its context, and one that is
-- declared elsewhere applies to nothing.
abbrev pub principals_written : {N A : Type 0} → (N → A) → ActionTypeKind N → List A
principals_written f (action.Declared s) = option_map_or (λ s. map f s.principal_types.items) s []
principals_written f action.External = []

abbrev pub resources_written : {N A : Type 0} → (N → A) → ActionTypeKind N → List A
resources_written f (action.Declared s) = option_map_or (λ s. map f s.resource_types.items) s []
resources_written f action.External = []

abbrev pub context_written : {N A : Type 0} → (N → A) → ActionTypeKind N → TypeForm A
context_written f (action.Declared s) = option_map_or (λ s. type_form f s.context) s (record_form no_field_forms)
context_written f action.External = record_form no_field_forms

-- it is declared elsewhere
abbrev pub is_written_elsewhere : {N : Type 0} → ActionTypeKind N → Bool
is_written_elsewhere (action.Declared s) = false
is_written_elsewhere action.External = true

-- an action
abbrev pub action_type_form : {N A : Type 0} → (N → A) → ActionType N → ActionForm A (A × Text)
action_type_form f a = record {
  parents = map (parent_form f) a.member_of.items;
  principals = principals_written f a.kind;
  resources = resources_written f a.kind;
  context = context_written f a.kind;
  is_external = is_written_elsewhere a.kind;
}

-- those that stand under words or ids
abbrev pub commons_written : List (Id × CommonType RawName) → List (Text × TypeForm Name)
commons_written es = map (λ e. (id_text e.0, common_form raw_name_of e.1)) es

-- common types whose names may stand for one of several
abbrev pub commons_known : List (Id × CommonType ConditionalName) → List (Text × TypeForm Conditional)
commons_known es = map (λ e. (id_text e.0, common_form conditional_of e.1)) es

abbrev pub entities_written : List (Id × EntityType RawName) → List (Text × EntityForm Name)
entities_written es = map (λ e. (id_text e.0, kind_form raw_name_of e.1.kind)) es

abbrev pub action_written : RcStr Global → ActionType RawName → Text × ActionForm Name (Name × Text)
action_written i a = (rc_str_bytes i, action_type_form raw_name_of a)

abbrev pub actions_written : List (RcStr Global × ActionType RawName) → List (Text × ActionForm Name (Name × Text))
actions_written es = map (λ e. (rc_str_bytes e.0, action_type_form raw_name_of e.1)) es

-- a namespace, and the namespaces of a fragment
abbrev pub written_namespace : Option InternalName → NamespaceDefinition RawName → WrittenNamespace
written_namespace space d = record {
  namespace = option_map name_of space;
  commons = commons_written d.common_types.entries;
  entities = entities_written d.entity_types.entries;
  actions = actions_written d.actions.entries;
}

abbrev pub written_fragment : Fragment RawName → List WrittenNamespace
written_fragment f = map (λ e. written_namespace e.0 e.1) f.0.entries
