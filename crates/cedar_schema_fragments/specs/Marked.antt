-- What fragments declare.
-- Rule: declarations; references (docs/RULES.md).
use Rattle.std.specs.Prelude.{◌≡◌, List, [], ◌∷◌, map, Bool}
use Rattle.std.specs.List.{list_any}
use Rattle.cedar_expr_model.specs.Name.{Name, name_eq}
use Rattle.cedar_expr_model.specs.Uid.{Uid, uid_eq}
use Rattle.cedar_expr_names.specs.Views.{name_of, uid_of}
use Rattle.cedar_schema_model.specs.Reference.{Meant, meant_common, meant_entity}
use Rattle.cedar_schema_decl.specs.Defined.{Defined, is_defined, is_defined_action, with_common, with_entity, with_action}
use Rattle.cedar_schema_decl.specs.declared.definitions.CommonTypeDefs.{CommonTypeDefs}
use Rattle.cedar_schema_decl.specs.declared.definitions.EntityTypesDef.{EntityTypesDef}
use Rattle.cedar_schema_fragments.specs.declared.actions.ActionsDef.{ActionsDef}
use Rattle.cedar_schema_fragments.specs.declared.namespace_def.ValidatorNamespaceDef.{ValidatorNamespaceDef}
use Rattle.cedar_schema_fragments.specs.declared.namespace_def.ValidatorSchemaFragment.{ValidatorSchemaFragment}

-- the names of common types, of entity types, and the uids of actions
abbrev pub common_names : {N : Type 0} → CommonTypeDefs N → List Name
common_names d = map (λ e. name_of e.0) d.defs.items

abbrev pub entity_names : {N : Type 0} → EntityTypesDef N → List Name
entity_names d = map (λ e. name_of e.0) d.defs.items

abbrev pub action_uids : {N A : Type 0} → ActionsDef N A → List Uid
action_uids d = map (λ e. uid_of e.0) d.actions.items

-- with all of these
abbrev pub all_with : {X : Type 0} → (X → Defined → Defined) → List X → Defined → Defined
all_with f [] s = s
all_with f (x ∷ xs) s = all_with f xs (f x s)

-- with what a namespace declares, and a fragment
abbrev pub with_namespace : {N A : Type 0} → ValidatorNamespaceDef N A → Defined → Defined
with_namespace n s = all_with with_action (action_uids n.actions) (all_with with_entity (entity_names n.entity_types) (all_with with_common (common_names n.common_types) s))

abbrev pub with_fragment : {N A : Type 0} → ValidatorSchemaFragment N A → Defined → Defined
with_fragment f s = all_with with_namespace f.0.items s

-- whether a namespace declares this type, or this action
abbrev pub namespace_declares : {N A : Type 0} → Meant → ValidatorNamespaceDef N A → Bool
namespace_declares (meant_common m) n = list_any (name_eq m) (common_names n.common_types)
namespace_declares (meant_entity m) n = list_any (name_eq m) (entity_names n.entity_types)

abbrev pub namespace_declares_action : {N A : Type 0} → Uid → ValidatorNamespaceDef N A → Bool
namespace_declares_action u n = list_any (uid_eq u) (action_uids n.actions)

-- The sets have exactly what these fragments declare.
pub record HasAll {N A : Type 0} (fs : List (ValidatorSchemaFragment N A)) (s : Defined) : Type 0 where
  pub types : (m : Meant) → is_defined s m ≡ list_any (λ f. list_any (namespace_declares m) f.0.items) fs
  pub actions : (u : Uid) → is_defined_action s u ≡ list_any (λ f. list_any (namespace_declares_action u) f.0.items) fs
