-- The common types and the namespaces that fragments declare, with their places.
-- Rule: declarations (docs/RULES.md).
use Rattle.std.specs.Prelude.{◌&&◌, List, [], ◌∷◌, map, Bool, not, Option, Some, None, if◌then◌else◌}
use Rattle.std.specs.List.{flat_map}
use Rattle.cedar_expr_model.specs.Lists.{is_nil}
use Rattle.cedar_expr_names.specs.Views.{name_of, name_loc}
use Rattle.cedar_expr_names.specs.declared.internal_name.InternalName.{InternalName}
use Rattle.cedar_expr_names.specs.declared.loc.Loc.{Loc}
use Rattle.cedar_schema_decl.specs.declared.json_schema.CommonType.{CommonType}
use Rattle.cedar_schema_fragments.specs.declared.namespace_def.ValidatorNamespaceDef.{ValidatorNamespaceDef}
use Rattle.cedar_schema_fragments.specs.declared.namespace_def.ValidatorSchemaFragment.{ValidatorSchemaFragment}
use Rattle.cedar_schema_built.specs.LocatedViews.{ListedCommon, ListedSpace}

-- a common type, and those of a namespace, a fragment, and several
abbrev pub common_in : {N : Type 0} → InternalName × CommonType N → ListedCommon
common_in e = record { name = name_of e.0; name_place = name_loc e.0; type_place = e.1.ty.loc }

abbrev pub commons_of_space : {N A : Type 0} → ValidatorNamespaceDef N A → List ListedCommon
commons_of_space n = map common_in n.common_types.defs.items

abbrev pub commons_of_fragment : {N A : Type 0} → ValidatorSchemaFragment N A → List ListedCommon
commons_of_fragment f = flat_map commons_of_space f.0.items

abbrev pub commons_of_fragments : {N A : Type 0} → List (ValidatorSchemaFragment N A) → List ListedCommon
commons_of_fragments fs = flat_map commons_of_fragment fs

-- whether a namespace declares anything
abbrev pub declares_any : {N A : Type 0} → ValidatorNamespaceDef N A → Bool
declares_any n = not (is_nil n.common_types.defs.items && (is_nil n.entity_types.defs.items && is_nil n.actions.actions.items))

-- the namespace of this name that is defined at this place; the empty one has no name
abbrev pub space_at : Option Loc → Option InternalName → List ListedSpace
space_at l None = []
space_at l (Some n) = record { name = name_of n; name_place = name_loc n; definition_place = l } ∷ []

-- the namespace, if it has a name and declares anything, and those of a fragment, and several
abbrev pub space_in : {N A : Type 0} → ValidatorNamespaceDef N A → List ListedSpace
space_in n = if declares_any n then space_at n.loc n.namespace else []

abbrev pub spaces_of_fragment : {N A : Type 0} → ValidatorSchemaFragment N A → List ListedSpace
spaces_of_fragment f = flat_map space_in f.0.items

abbrev pub spaces_of_fragments : {N A : Type 0} → List (ValidatorSchemaFragment N A) → List ListedSpace
spaces_of_fragments fs = flat_map spaces_of_fragment fs
