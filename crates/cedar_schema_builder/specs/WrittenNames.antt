-- The names that are written in declarations under full names.
-- Rule: well-formed declarations; references (docs/RULES.md).
use Rattle.std.specs.Prelude.{List, [], ◌∷◌, ◌++◌, map, option_to_list}
use Rattle.std.specs.List.{flat_map}
use Rattle.cedar_expr_model.specs.Name.{Text, Name}
use Rattle.cedar_expr_model.specs.Uid.{Uid}
use Rattle.cedar_expr_leaves.specs.declared.conditional_name.ConditionalName.{ConditionalName}
use Rattle.cedar_schema_decl.specs.Conditional.{Conditional, conditional_of}
use Rattle.cedar_schema_decl.specs.Forms.{TypeForm, bool_form, long_form, string_form, set_form, record_form, reference_form, extension_form, FieldForms, no_field_forms, field_form, EntityForm, standard_form, enumerated_form, external_form, ActionForm}
use Rattle.cedar_schema_fragments.specs.Actions.{principals_form, resources_form, context_form}
use Rattle.cedar_schema_fragments.specs.Namespaces.{NamespaceForm}
use Rattle.cedar_schema_fragments.specs.WrittenDeclarations.{all_forms}
use Rattle.cedar_schema_fragments.specs.declared.actions.ActionFragmentKind.{ActionFragmentKind}
use Rattle.cedar_schema_fragments.specs.declared.namespace_def.ValidatorSchemaFragment.{ValidatorSchemaFragment}

-- in a type, the names that it refers to and its extension types
abbrev mutual
  pub names_in_type : TypeForm Conditional → List Name
  names_in_type bool_form = []
  names_in_type long_form = []
  names_in_type string_form = []
  names_in_type (set_form t) = names_in_type t
  names_in_type (record_form fs) = names_in_fields fs
  names_in_type (reference_form k c) = c.written ∷ []
  names_in_type (extension_form n) = n ∷ []

  pub names_in_fields : FieldForms Conditional → List Name
  names_in_fields no_field_forms = []
  names_in_fields (field_form a t r fs) = names_in_type t ++ names_in_fields fs

-- names as they are written
abbrev pub as_written : List Conditional → List Name
as_written cs = map (λ c. c.written) cs

-- a common type: its own name, and those in its type
abbrev pub names_in_common : Name × TypeForm Conditional → List Name
names_in_common c = c.0 ∷ names_in_type c.1

-- what is declared of an entity type: its parents, its attributes and the type of its tags
abbrev pub names_in_kind : EntityForm Conditional → List Name
names_in_kind (standard_form ps fs t) = as_written ps ++ (names_in_fields fs ++ flat_map names_in_type (option_to_list t))
names_in_kind (enumerated_form ids) = []
names_in_kind (external_form ps) = as_written ps

-- an entity type
abbrev pub names_in_entity : Name × EntityForm Conditional → List Name
names_in_entity t = t.0 ∷ names_in_kind t.1

-- the types of parents of actions
abbrev pub parents_as_written : List (Conditional × Text) → List Name
parents_as_written ps = map (λ p. p.0.written) ps

-- what is declared of an action: the types of its parents, those that it applies to, and what its context names
abbrev pub names_of_action : ActionForm Conditional (Conditional × Text) → List Name
names_of_action a = parents_as_written a.parents ++ (as_written a.principals ++ (as_written a.resources ++ names_in_type a.context))

-- what an action applies to, and what its context names
abbrev pub names_in_action_kind : ActionFragmentKind ConditionalName ConditionalName → List Name
names_in_action_kind k = as_written (principals_form conditional_of k) ++ (as_written (resources_form conditional_of k) ++ names_in_type (context_form conditional_of k))

-- an action: its own type, and what is declared of it
abbrev pub names_in_action : Uid × ActionForm Conditional (Conditional × Text) → List Name
names_in_action a = a.0.kind ∷ names_of_action a.1

-- a namespace
abbrev pub names_in_namespace : NamespaceForm Conditional (Conditional × Text) → List Name
names_in_namespace n = flat_map names_in_common n.commons ++ (flat_map names_in_entity n.entities ++ flat_map names_in_action n.actions)

-- all names that are written in these fragments, one namespace after the other
abbrev pub names_in : List (ValidatorSchemaFragment ConditionalName ConditionalName) → List Name
names_in fs = flat_map names_in_namespace (all_forms fs)

-- the names of the entity types that a namespace declares, and of all that these fragments do
abbrev pub entities_of : NamespaceForm Conditional (Conditional × Text) → List Name
entities_of n = map (λ t. t.0) n.entities

abbrev pub entities_named : List (ValidatorSchemaFragment ConditionalName ConditionalName) → List Name
entities_named fs = flat_map entities_of (all_forms fs)
