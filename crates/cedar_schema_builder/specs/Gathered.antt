-- What fragments with resolved names declare, gathered.
-- Rule: declarations (docs/RULES.md).
use Rattle.std.specs.Prelude.{List, map}
use Rattle.std.specs.List.{flat_map}
use Rattle.cedar_expr_model.specs.Name.{Text, Name}
use Rattle.cedar_expr_model.specs.Uid.{Uid}
use Rattle.cedar_expr_names.specs.Views.{name_of, type_name_of}
use Rattle.cedar_expr_names.specs.declared.entity.EntityType.{EntityType}
use Rattle.cedar_expr_names.specs.declared.internal_name.InternalName.{InternalName}
use Rattle.cedar_schema_decl.specs.Definitions.{common_form, entity_form}
use Rattle.cedar_schema_decl.specs.Forms.{TypeForm, EntityForm, ActionForm}
use Rattle.cedar_schema_fragments.specs.Actions.{under_uid}
use Rattle.cedar_schema_fragments.specs.Namespaces.{NamespaceForm, fragment_form}
use Rattle.cedar_schema_fragments.specs.declared.namespace_def.ValidatorSchemaFragment.{ValidatorSchemaFragment}
use Rattle.cedar_schema_builder.specs.declared.gathered.GatheredDefs.{GatheredDefs}

-- all common types under their names, all entity types under theirs, and all actions under their uids
abbrev pub commons_gathered : GatheredDefs → List (Name × TypeForm Name)
commons_gathered g = map (λ e. (name_of e.0, common_form name_of e.1)) g.common_types.items

abbrev pub entities_gathered : GatheredDefs → List (Name × EntityForm Name)
entities_gathered g = map (λ e. (name_of e.0, entity_form name_of e.1)) g.entity_types.items

abbrev pub actions_gathered : GatheredDefs → List (Uid × ActionForm Name (Name × Text))
actions_gathered g = map (under_uid name_of type_name_of) g.actions.items

-- all namespaces of fragments with resolved names
abbrev pub resolved_forms : List (ValidatorSchemaFragment InternalName EntityType) → List (NamespaceForm Name (Name × Text))
resolved_forms fs = flat_map (fragment_form name_of type_name_of) fs
