-- What resolved declarations write, and the names in them.
-- Rule: declarations; descent (docs/RULES.md).
use Rattle.std.specs.Prelude.{List, map}
use Rattle.cedar_expr_model.specs.Name.{Text, Name}
use Rattle.cedar_expr_model.specs.Uid.{Uid}
use Rattle.cedar_expr_names.specs.Views.{name_of, type_name_of}
use Rattle.cedar_expr_names.specs.declared.entity.EntityType.{EntityType}
use Rattle.cedar_expr_names.specs.declared.entity.EntityUID.{EntityUID}
use Rattle.cedar_expr_names.specs.declared.internal_name.InternalName.{InternalName}
use Rattle.cedar_schema_decl.specs.Definitions.{entity_form}
use Rattle.cedar_schema_decl.specs.Forms.{EntityForm, ActionForm}
use Rattle.cedar_schema_decl.specs.declared.definitions.EntityTypeFragment.{EntityTypeFragment}
use Rattle.cedar_schema_fragments.specs.Actions.{under_uid}
use Rattle.cedar_schema_fragments.specs.WrittenDeclarations.{parents_written, as_uid}
use Rattle.cedar_schema_fragments.specs.declared.actions.ActionFragment.{ActionFragment}

-- an entity type under its name, and those that are
abbrev pub WrittenType : Type 0
WrittenType = Name × EntityForm Name

abbrev pub type_seen : InternalName × EntityTypeFragment InternalName → WrittenType
type_seen e = (name_of e.0, entity_form name_of e.1)

abbrev pub types_seen : List (InternalName × EntityTypeFragment InternalName) → List WrittenType
types_seen es = map type_seen es

-- an action under its uid, and those that are
abbrev pub WrittenAction : Type 0
WrittenAction = Uid × ActionForm Name (Name × Text)

abbrev pub action_under_uid : EntityUID × ActionFragment InternalName EntityType → WrittenAction
action_under_uid a = under_uid name_of type_name_of a

abbrev pub actions_seen : List (EntityUID × ActionFragment InternalName EntityType) → List WrittenAction
actions_seen as_ = map action_under_uid as_

-- their names, and their uids
abbrev pub names_written : List WrittenType → List Name
names_written es = map (λ e. e.0) es

abbrev pub uids_written : List WrittenAction → List Uid
uids_written as_ = map (λ a. a.0) as_

-- each with its parents
abbrev pub types_above : List WrittenType → List (Name × List Name)
types_above es = map (λ e. (e.0, parents_written e.1)) es

abbrev pub actions_above : List WrittenAction → List (Uid × List Uid)
actions_above as_ = map (λ a. (a.0, map as_uid a.1.parents)) as_

-- the names of the types of an action's parents
abbrev pub kinds_of : List (Name × Text) → List Name
kinds_of ps = map (λ p. p.0) ps

abbrev pub parent_kinds : WrittenAction → List Name
parent_kinds a = kinds_of a.1.parents
