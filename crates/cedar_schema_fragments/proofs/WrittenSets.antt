-- Sets that have what fragments declare have what the declarations declare that they write.
use Rattle.std.proofs.Common.{◌≡◌, Bool, List, map, sym, ap, ◌∙◌}
use Rattle.std.specs.List.{list_any}
use Rattle.cedar_expr_model.specs.Name.{Text, Name, name_eq}
use Rattle.cedar_expr_model.specs.Uid.{Uid, uid_eq}
use Rattle.cedar_expr_names.specs.Views.{name_of, uid_of}
use Rattle.cedar_expr_leaves.specs.declared.conditional_name.ConditionalName.{ConditionalName}
use Rattle.cedar_schema_model.specs.Reference.{meant_common, meant_entity}
use Rattle.cedar_schema_model.specs.Declarations.{Declarations, common_name, entity_name, action_uid, is_declared, is_declared_action}
use Rattle.cedar_schema_decl.specs.Conditional.{Conditional, conditional_of}
use Rattle.cedar_schema_decl.specs.Defined.{Defined}
use Rattle.cedar_schema_decl.specs.Definitions.{common_form, entity_form}
use Rattle.cedar_schema_decl.specs.Laws.{HasDeclared}
use Rattle.cedar_schema_fragments.proofs.Anys.{any_alike, any_map, any_flat, any_flat_map}
use Rattle.cedar_schema_fragments.proofs.Wholes.{whole, wholes_are}
use Rattle.cedar_schema_fragments.specs.Actions.{under_uid}
use Rattle.cedar_schema_fragments.specs.Laws.{HasActions}
use Rattle.cedar_schema_fragments.specs.Marked.{HasAll, namespace_declares, namespace_declares_action}
use Rattle.cedar_schema_fragments.specs.Namespaces.{NamespaceForm, namespace_form, fragment_form}
use Rattle.cedar_schema_fragments.specs.Qualified.{common_qualified, entity_qualified, action_qualified}
use Rattle.cedar_schema_fragments.specs.Written.{WrittenNamespace}
use Rattle.cedar_schema_fragments.specs.WrittenDeclarations.{common_declaration, entity_declaration, action_declaration, declared_in, declarations_of, all_forms, AreWritten}
use Rattle.cedar_schema_fragments.specs.declared.namespace_def.ValidatorNamespaceDef.{ValidatorNamespaceDef}
use Rattle.cedar_schema_fragments.specs.declared.namespace_def.ValidatorSchemaFragment.{ValidatorSchemaFragment}

abbrev Space : Type 0
Space = ValidatorNamespaceDef ConditionalName ConditionalName

abbrev Form : Type 0
Form = NamespaceForm Conditional (Conditional × Text)

abbrev form_of : Space → Form
form_of = namespace_form conditional_of conditional_of

-- a test of namespaces of the code that is one of their forms, over all fragments
module _ (q : Space → Bool) (p : Form → Bool) (same : (n : Space) → q n ≡ p (form_of n)) where
  of_fragment : (f : ValidatorSchemaFragment ConditionalName ConditionalName) → list_any q f.0.items ≡ list_any p (fragment_form conditional_of conditional_of f)
  of_fragment f = any_alike q (λ n. p (form_of n)) same f.0.items ∙ sym (any_map p form_of f.0.items)

  of_fragments : (fs : List (ValidatorSchemaFragment ConditionalName ConditionalName)) → list_any (λ f. list_any q f.0.items) fs ≡ list_any p (all_forms fs)
  of_fragments fs = any_alike (λ f. list_any q f.0.items) (λ f. list_any p (fragment_form conditional_of conditional_of f)) of_fragment fs ∙ sym (any_flat p (fragment_form conditional_of conditional_of) fs)

  of_written : (fs : List (ValidatorSchemaFragment ConditionalName ConditionalName)) (ws : List WrittenNamespace) → all_forms fs ≡ map whole ws → list_any (λ f. list_any q f.0.items) fs ≡ list_any (λ w. p (whole w)) ws
  of_written fs ws h = of_fragments fs ∙ ap (list_any p) h ∙ any_map p whole ws

-- by kind
common_same : (m : Name) (n : Space) → namespace_declares (meant_common m) n ≡ list_any (λ c. name_eq m c.0) (form_of n).commons
common_same m n = any_map (name_eq m) (λ e. name_of e.0) n.common_types.defs.items ∙ sym (any_map (λ c. name_eq m c.0) (λ e. (name_of e.0, common_form conditional_of e.1)) n.common_types.defs.items)

entity_same : (m : Name) (n : Space) → namespace_declares (meant_entity m) n ≡ list_any (λ c. name_eq m c.0) (form_of n).entities
entity_same m n = any_map (name_eq m) (λ e. name_of e.0) n.entity_types.defs.items ∙ sym (any_map (λ c. name_eq m c.0) (λ e. (name_of e.0, entity_form conditional_of e.1)) n.entity_types.defs.items)

action_same : (u : Uid) (n : Space) → namespace_declares_action u n ≡ list_any (λ c. uid_eq u c.0) (form_of n).actions
action_same u n = any_map (uid_eq u) (λ e. uid_of e.0) n.actions.actions.items ∙ sym (any_map (λ c. uid_eq u c.0) (under_uid conditional_of conditional_of) n.actions.actions.items)

common_declared : (m : Name) (ws : List WrittenNamespace) → list_any (λ w. list_any (λ c. name_eq m c.0) (whole w).commons) ws ≡ is_declared (declarations_of ws) (meant_common m)
common_declared m ws =
    any_alike (λ w. list_any (λ c. name_eq m c.0) (whole w).commons) (λ w. list_any (λ c. name_eq m (common_name c)) (declared_in w).commons) (λ w. any_map (λ c. name_eq m c.0) (common_qualified w.namespace) w.commons ∙ sym (any_map (λ c. name_eq m (common_name c)) (common_declaration w.namespace) w.commons)) ws
    ∙ sym (any_flat_map (λ c. name_eq m (common_name c)) (λ d. d.commons) declared_in ws)
    ∙ sym (any_map (name_eq m) common_name (declarations_of ws).commons)

entity_declared : (m : Name) (ws : List WrittenNamespace) → list_any (λ w. list_any (λ c. name_eq m c.0) (whole w).entities) ws ≡ is_declared (declarations_of ws) (meant_entity m)
entity_declared m ws =
    any_alike (λ w. list_any (λ c. name_eq m c.0) (whole w).entities) (λ w. list_any (λ c. name_eq m (entity_name c)) (declared_in w).entities) (λ w. any_map (λ c. name_eq m c.0) (entity_qualified w.namespace) w.entities ∙ sym (any_map (λ c. name_eq m (entity_name c)) (entity_declaration w.namespace) w.entities)) ws
    ∙ sym (any_flat_map (λ c. name_eq m (entity_name c)) (λ d. d.entities) declared_in ws)
    ∙ sym (any_map (name_eq m) entity_name (declarations_of ws).entities)

action_declared : (u : Uid) (ws : List WrittenNamespace) → list_any (λ w. list_any (λ c. uid_eq u c.0) (whole w).actions) ws ≡ is_declared_action (declarations_of ws) u
action_declared u ws =
    any_alike (λ w. list_any (λ c. uid_eq u c.0) (whole w).actions) (λ w. list_any (λ c. uid_eq u (action_uid c)) (declared_in w).actions) (λ w. any_map (λ c. uid_eq u c.0) (action_qualified w.namespace) w.actions ∙ sym (any_map (λ c. uid_eq u (action_uid c)) (action_declaration w.namespace) w.actions)) ws
    ∙ sym (any_flat_map (λ c. uid_eq u (action_uid c)) (λ d. d.actions) declared_in ws)
    ∙ sym (any_map (uid_eq u) action_uid (declarations_of ws).actions)

module _ (fs : List (ValidatorSchemaFragment ConditionalName ConditionalName)) (d : Declarations) (w : AreWritten fs d) (s : Defined) (has : HasAll fs s) where
  forms : all_forms fs ≡ map whole w.namespaces
  forms = wholes_are w.namespaces (all_forms fs) w.qualifies

  pub sets_have_types : HasDeclared s d
  sets_have_types (meant_common m) = has.types (meant_common m) ∙ of_written (namespace_declares (meant_common m)) (λ n. list_any (λ c. name_eq m c.0) n.commons) (common_same m) fs w.namespaces forms ∙ common_declared m w.namespaces ∙ ap (λ e. is_declared e (meant_common m)) (sym w.declares)
  sets_have_types (meant_entity m) = has.types (meant_entity m) ∙ of_written (namespace_declares (meant_entity m)) (λ n. list_any (λ c. name_eq m c.0) n.entities) (entity_same m) fs w.namespaces forms ∙ entity_declared m w.namespaces ∙ ap (λ e. is_declared e (meant_entity m)) (sym w.declares)

  pub sets_have_actions : HasActions s d
  sets_have_actions u = has.actions u ∙ of_written (namespace_declares_action u) (λ n. list_any (λ c. uid_eq u c.0) n.actions) (action_same u) fs w.namespaces forms ∙ action_declared u w.namespaces ∙ ap (λ e. is_declared_action e u) (sym w.declares)
