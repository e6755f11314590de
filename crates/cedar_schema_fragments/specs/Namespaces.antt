-- What namespaces and fragments declare, over what is seen of their names.
-- Rule: declarations (docs/RULES.md).
use Rattle.std.specs.Prelude.{List, Option, map, option_map}
use Rattle.cedar_expr_model.specs.Name.{Text, Name}
use Rattle.cedar_expr_model.specs.Uid.{Uid}
use Rattle.cedar_expr_names.specs.Views.{name_of}
use Rattle.cedar_schema_decl.specs.Forms.{TypeForm, EntityForm, ActionForm}
use Rattle.cedar_schema_decl.specs.Definitions.{commons_form, entities_form}
use Rattle.cedar_schema_fragments.specs.Actions.{actions_form}
use Rattle.cedar_schema_fragments.specs.declared.namespace_def.ValidatorNamespaceDef.{ValidatorNamespaceDef}
use Rattle.cedar_schema_fragments.specs.declared.namespace_def.ValidatorSchemaFragment.{ValidatorSchemaFragment}

-- A namespace, which is the empty one where it has no name, with what it declares under full names and uids.
pub record NamespaceForm (A P : Type 0) : Type 0 where
  pub namespace : Option Name
  pub commons : List (Name × TypeForm A)
  pub entities : List (Name × EntityForm A)
  pub actions : List (Uid × ActionForm A P)

abbrev pub namespace_form : {N A X : Type 0} → (N → X) → (A → X) → ValidatorNamespaceDef N A → NamespaceForm X (X × Text)
namespace_form f g n = record {
  namespace = option_map name_of n.namespace;
  commons = commons_form f n.common_types;
  entities = entities_form f n.entity_types;
  actions = actions_form f g n.actions;
}

abbrev pub fragment_form : {N A X : Type 0} → (N → X) → (A → X) → ValidatorSchemaFragment N A → List (NamespaceForm X (X × Text))
fragment_form f g s = map (namespace_form f g) s.0.items
