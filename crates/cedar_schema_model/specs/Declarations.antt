-- Declarations, as a bag: what is declared in which namespace, as it is written.
-- Rule: declarations; references (docs/RULES.md).
use Rattle.std.specs.Prelude.{List, [], ◌∷◌, ◌++◌, map, Bool, Option, find, option_to_list}
use Rattle.std.specs.List.{flat_map, list_any}
use Rattle.cedar_expr_model.specs.Name.{Text, Name, name_eq}
use Rattle.cedar_expr_model.specs.Uid.{Uid, uid_eq}
use Rattle.cedar_schema_model.specs.Reference.{Namespace, name_in, action_in, ReferenceKind, to_entity, Reference, Meant, meant_common, meant_entity, candidates, action_candidates}

-- A type as it is written.
mutual
  pub data TypeExpr : Type 0 where
    bool_expr long_expr string_expr : TypeExpr
    set_expr : TypeExpr → TypeExpr
    record_expr : FieldExprs → TypeExpr
    reference : ReferenceKind → Name → TypeExpr
    extension_expr : Name → TypeExpr

  -- attributes, each with its type and whether it is required; of repeated names the last stands
  pub data FieldExprs : Type 0 where
    no_field_exprs : FieldExprs
    field_expr : Text → TypeExpr → Bool → FieldExprs → FieldExprs

-- A common type: a name for a written type.
pub record CommonDeclaration : Type 0 where
  pub namespace : Namespace
  pub word : Text
  pub definition : TypeExpr

-- An entity type is standard, with attributes and, if it has tags, their type; or enumerated; or declared elsewhere.
pub data KindExpr : Type 0 where
  standard_expr : FieldExprs → Option TypeExpr → KindExpr
  enumerated_expr : List Text → KindExpr
  external_expr : KindExpr

pub record EntityDeclaration : Type 0 where
  pub namespace : Namespace
  pub word : Text
  pub parents : List Name
  pub kind : KindExpr

-- An action: its parents, the types of its principals and resources, and that of its context, which is the empty record where
-- none is written. One that is declared elsewhere has parents alone.
pub record ActionDeclaration : Type 0 where
  pub namespace : Namespace
  pub id : Text
  pub parents : List Uid
  pub principals : List Name
  pub resources : List Name
  pub context : TypeExpr
  pub is_external : Bool

-- The bag of all declarations.
pub record Declarations : Type 0 where
  pub commons : List CommonDeclaration
  pub entities : List EntityDeclaration
  pub actions : List ActionDeclaration

-- the declarations of several fragments together
abbrev pub bag : List Declarations → Declarations
bag ds = record { commons = flat_map (λ d. d.commons) ds; entities = flat_map (λ d. d.entities) ds; actions = flat_map (λ d. d.actions) ds }

-- what they declare
abbrev pub common_name : CommonDeclaration → Name
common_name c = name_in c.namespace c.word

abbrev pub entity_name : EntityDeclaration → Name
entity_name t = name_in t.namespace t.word

abbrev pub action_uid : ActionDeclaration → Uid
action_uid a = action_in a.namespace a.id

abbrev pub common_names : Declarations → List Name
common_names d = map common_name d.commons

abbrev pub entity_names : Declarations → List Name
entity_names d = map entity_name d.entities

abbrev pub action_uids : Declarations → List Uid
action_uids d = map action_uid d.actions

-- whether this is declared
abbrev pub is_declared : Declarations → Meant → Bool
is_declared d (meant_common n) = list_any (name_eq n) (common_names d)
is_declared d (meant_entity n) = list_any (name_eq n) (entity_names d)

abbrev pub is_declared_action : Declarations → Uid → Bool
is_declared_action d u = list_any (uid_eq u) (action_uids d)

-- What a reference means: the first of what it may mean that is declared.
abbrev pub meant : Declarations → Reference → Option Meant
meant d r = find (is_declared d) (candidates r)

-- what the parent of an action means
abbrev pub parent_meant : Declarations → Namespace → Uid → Option Uid
parent_meant d ns u = find (is_declared_action d) (action_candidates ns u)

-- the references in a type that is written in a namespace
abbrev mutual
  pub references_in : Namespace → TypeExpr → List Reference
  references_in ns (set_expr t) = references_in ns t
  references_in ns (record_expr fs) = references_in_fields ns fs
  references_in ns (reference k n) = record { namespace = ns; kind = k; name = n } ∷ []
  references_in ns t = []

  pub references_in_fields : Namespace → FieldExprs → List Reference
  references_in_fields ns no_field_exprs = []
  references_in_fields ns (field_expr a t r fs) = references_in ns t ++ references_in_fields ns fs

-- the extension types in it
abbrev mutual
  pub extensions_in : TypeExpr → List Name
  extensions_in (set_expr t) = extensions_in t
  extensions_in (record_expr fs) = extensions_in_fields fs
  extensions_in (extension_expr n) = n ∷ []
  extensions_in t = []

  pub extensions_in_fields : FieldExprs → List Name
  extensions_in_fields no_field_exprs = []
  extensions_in_fields (field_expr a t r fs) = extensions_in t ++ extensions_in_fields fs

-- the types that stand in a declaration: its attributes as a record, and that of its tags
abbrev pub types_in : KindExpr → List TypeExpr
types_in (standard_expr fs t) = record_expr fs ∷ option_to_list t
types_in k = []

-- references to entity types, by these names
abbrev pub to_entities : Namespace → List Name → List Reference
to_entities ns ns_ = map (λ n. record { namespace = ns; kind = to_entity; name = n }) ns_

-- the references of each declaration, and all of them
abbrev pub references_of_common : CommonDeclaration → List Reference
references_of_common c = references_in c.namespace c.definition

abbrev pub references_of_entity : EntityDeclaration → List Reference
references_of_entity t = to_entities t.namespace t.parents ++ flat_map (references_in t.namespace) (types_in t.kind)

abbrev pub references_of_action : ActionDeclaration → List Reference
references_of_action a = to_entities a.namespace a.principals ++ (to_entities a.namespace a.resources ++ references_in a.namespace a.context)

abbrev pub references : Declarations → List Reference
references d = flat_map references_of_common d.commons ++ (flat_map references_of_entity d.entities ++ flat_map references_of_action d.actions)

-- all extension types that are named
abbrev pub extensions : Declarations → List Name
extensions d = flat_map (λ c. extensions_in c.definition) d.commons
    ++ (flat_map (λ t. flat_map extensions_in (types_in t.kind)) d.entities ++ flat_map (λ a. extensions_in a.context) d.actions)
