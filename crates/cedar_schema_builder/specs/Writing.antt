-- Entity types and actions whose names are resolved, and the declarations that they write.
-- Rule: declarations; references (docs/RULES.md).
use Rattle.std.specs.Prelude.{◌≡◌, List, [], ◌∷◌, ◌++◌, map, Option}
use Rattle.std.specs.List.{flat_map}
use Rattle.std.specs.declared.result.Result.TheVariants.{Ok}
use Rattle.cedar_expr_model.specs.Name.{Text, Name}
use Rattle.cedar_expr_model.specs.Uid.{Uid}
use Rattle.cedar_schema_model.specs.Declarations.{EntityDeclaration, ActionDeclaration, Declarations}
use Rattle.cedar_schema_decl.specs.Defined.{Defined, resolving}
use Rattle.cedar_schema_decl.specs.Forms.{TypeForm, EntityForm, ActionForm}
use Rattle.cedar_schema_decl.specs.Requalified.{requalified_entity, under_name}
use Rattle.cedar_schema_fragments.specs.Laws.{HasActions}
use Rattle.cedar_schema_fragments.specs.Namespaces.{NamespaceForm}
use Rattle.cedar_schema_fragments.specs.Qualified.{entity_qualified, action_qualified}
use Rattle.cedar_schema_fragments.specs.Resolved.{action_resolved, with_uid}
use Rattle.cedar_schema_fragments.specs.WrittenDeclarations.{parents_written, entity_declaration, action_declaration}
use Rattle.cedar_schema_resolver.specs.Laws.{WritesCommons}
use Rattle.cedar_schema_resolver.specs.Solved.{names_of}

-- common types under their names, entity types under theirs, and actions under their uids
abbrev pub CommonForms : Type 0
CommonForms = List (Name × TypeForm Name)

abbrev pub EntityForms : Type 0
EntityForms = List (Name × EntityForm Name)

abbrev pub ActionForms : Type 0
ActionForms = List (Uid × ActionForm Name (Name × Text))

-- those of several namespaces
abbrev pub commons_of : List (NamespaceForm Name (Name × Text)) → CommonForms
commons_of ns = flat_map (λ n. n.commons) ns

abbrev pub entities_of : List (NamespaceForm Name (Name × Text)) → EntityForms
entities_of ns = flat_map (λ n. n.entities) ns

abbrev pub actions_of : List (NamespaceForm Name (Name × Text)) → ActionForms
actions_of ns = flat_map (λ n. n.actions) ns

-- each of the first stands so to the one in its place
abbrev pub InPlace : {A B : Type 0} → (A → B → Type 0) → List A → List B → Type 0
InPlace R [] [] = Unit {0}
InPlace R (x ∷ xs) (y ∷ ys) = R x y × InPlace R xs ys
InPlace R xs ys = ⊥

-- The name with the entity type writes a declared entity type: it is what is written in its namespace, with names resolved.
pub record IsEntityWrittenAs (s : Defined) (e : EntityDeclaration) (p : Name × EntityForm Name) : Type 0 where
  pub space : Option Name
  pub form : Text × EntityForm Name
  pub declares : entity_declaration space form ≡ e
  pub resolves : under_name (requalified_entity (resolving s)) (entity_qualified space form) ≡ Ok p

-- The uid with the action writes a declared action.
pub record IsActionWrittenAs (s : Defined) (a : ActionDeclaration) (p : Uid × ActionForm Name (Name × Text)) : Type 0 where
  pub space : Option Name
  pub form : Text × ActionForm Name (Name × Text)
  pub declares : action_declaration space form ≡ a
  pub resolves : with_uid (action_resolved s) (action_qualified space form) ≡ Ok p

-- The sets have what the declarations declare, and these are its common types, entity types and actions, each in its place.
pub record WritesAll (s : Defined) (d : Declarations) (cs : CommonForms) (es : EntityForms) (as_ : ActionForms) : Type 0 where
  pub commons : WritesCommons s d cs
  pub declared : HasActions s d
  pub entities : InPlace (IsEntityWrittenAs s) d.entities es
  pub actions : InPlace (IsActionWrittenAs s) d.actions as_

-- the names of entity types, and the uids of actions
abbrev pub names_of_entities : EntityForms → List Name
names_of_entities es = map (λ e. e.0) es

abbrev pub uids_of_actions : ActionForms → List Uid
uids_of_actions as_ = map (λ a. a.0) as_

-- the names under which something is declared: that of an action is the name of its type
abbrev pub names_declared : CommonForms → EntityForms → ActionForms → List Name
names_declared cs es as_ = names_of cs ++ (names_of_entities es ++ map (λ u. u.kind) (uids_of_actions as_))

-- the names that an action refers to: those of its principal and resource types, and of the types of its parents
abbrev pub names_in_action : ActionForm Name (Name × Text) → List Name
names_in_action a = a.principals ++ (a.resources ++ map (λ p. p.0) a.parents)

-- the names that entity types and actions refer to
abbrev pub names_referred : EntityForms → ActionForms → List Name
names_referred es as_ = flat_map (λ e. parents_written e.1) es ++ flat_map (λ a. names_in_action a.1) as_
