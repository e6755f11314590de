-- The declarations that namespaces write, and fragments that write them.
-- Rule: declarations; references (docs/RULES.md).
use Rattle.std.specs.Prelude.{◌≡◌, List, [], map, Option, option_map}
use Rattle.std.specs.List.{flat_map}
use Rattle.std.specs.declared.result.Result.TheVariants.{Ok}
use Rattle.cedar_expr_model.specs.Name.{Text, Name}
use Rattle.cedar_expr_model.specs.Uid.{Uid}
use Rattle.cedar_expr_leaves.specs.declared.conditional_name.ConditionalName.{ConditionalName}
use Rattle.cedar_schema_model.specs.Declarations.{CommonDeclaration, EntityDeclaration, ActionDeclaration, KindExpr, standard_expr, enumerated_expr, external_expr, Declarations, bag}
use Rattle.cedar_schema_decl.specs.Conditional.{Conditional, conditional_of}
use Rattle.cedar_schema_decl.specs.Forms.{TypeForm, EntityForm, standard_form, enumerated_form, external_form, ActionForm}
use Rattle.cedar_schema_decl.specs.Laws.{namespace_parts, as_expr, as_exprs}
use Rattle.cedar_schema_decl.specs.Requalified.{each}
use Rattle.cedar_schema_fragments.specs.Namespaces.{NamespaceForm, fragment_form}
use Rattle.cedar_schema_fragments.specs.Qualified.{namespace_qualified}
use Rattle.cedar_schema_fragments.specs.Written.{WrittenNamespace}
use Rattle.cedar_schema_fragments.specs.declared.namespace_def.ValidatorSchemaFragment.{ValidatorSchemaFragment}

-- a common type
abbrev pub common_declaration : Option Name → Text × TypeForm Name → CommonDeclaration
common_declaration space c = record { namespace = namespace_parts space; word = c.0; definition = as_expr c.1 }

-- an entity type: its parents, and its kind
abbrev pub parents_written : EntityForm Name → List Name
parents_written (standard_form ps fs t) = ps
parents_written (enumerated_form ids) = []
parents_written (external_form ps) = ps

abbrev pub kind_written : EntityForm Name → KindExpr
kind_written (standard_form ps fs t) = standard_expr (as_exprs fs) (option_map as_expr t)
kind_written (enumerated_form ids) = enumerated_expr ids
kind_written (external_form ps) = external_expr

abbrev pub entity_declaration : Option Name → Text × EntityForm Name → EntityDeclaration
entity_declaration space t = record { namespace = namespace_parts space; word = t.0; parents = parents_written t.1; kind = kind_written t.1 }

-- an action
abbrev pub as_uid : Name × Text → Uid
as_uid p = record { kind = p.0; id = p.1 }

abbrev pub action_declaration : Option Name → Text × ActionForm Name (Name × Text) → ActionDeclaration
action_declaration space a = record {
  namespace = namespace_parts space;
  id = a.0;
  parents = map as_uid a.1.parents;
  principals = a.1.principals;
  resources = a.1.resources;
  context = as_expr a.1.context;
  is_external = a.1.is_external;
}

-- what a namespace declares, and several together
abbrev pub declared_in : WrittenNamespace → Declarations
declared_in w = record {
  commons = map (common_declaration w.namespace) w.commons;
  entities = map (entity_declaration w.namespace) w.entities;
  actions = map (action_declaration w.namespace) w.actions;
}

abbrev pub declarations_of : List WrittenNamespace → Declarations
declarations_of ws = bag (map declared_in ws)

-- all namespaces of these fragments
abbrev pub all_forms : List (ValidatorSchemaFragment ConditionalName ConditionalName) → List (NamespaceForm Conditional (Conditional × Text))
all_forms fs = flat_map (fragment_form conditional_of conditional_of) fs

-- Fragments write these declarations: some namespaces do as they are written, and the fragments' are these, under full names and with
-- what each name may stand for.
pub record AreWritten (fs : List (ValidatorSchemaFragment ConditionalName ConditionalName)) (d : Declarations) : Type 0 where
  pub namespaces : List WrittenNamespace
  pub declares : d ≡ declarations_of namespaces
  pub qualifies : each namespace_qualified namespaces ≡ Ok (all_forms fs)
