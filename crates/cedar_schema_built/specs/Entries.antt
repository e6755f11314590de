-- What is kept by name, and whether each stands under its own name.
-- Rule: schemas (docs/RULES.md).
use Rattle.std.specs.Prelude.{List, map}
use Rattle.cedar_expr_model.specs.Name.{Name}
use Rattle.cedar_expr_model.specs.Uid.{Uid}
use Rattle.cedar_expr_names.specs.Views.{type_name_of, uid_of}
use Rattle.cedar_expr_names.specs.declared.entity.EntityType.{EntityType}
use Rattle.cedar_expr_names.specs.declared.entity.EntityUID.{EntityUID}
use Rattle.cedar_schema_model.specs.Kept.{KeptType, KeptAction}
use Rattle.cedar_schema_entries.specs.Views.{entity_type_seen, action_seen}
use Rattle.cedar_schema_entries.specs.declared.entity_type.ValidatorEntityType.{ValidatorEntityType}
use Rattle.cedar_schema_entries.specs.declared.action.ValidatorActionId.{ValidatorActionId}

-- the entity types
abbrev pub types_in : List (EntityType × ValidatorEntityType) → List KeptType
types_in es = map (λ e. entity_type_seen e.1) es

-- the names under which they stand, and their own
abbrev pub type_keys : List (EntityType × ValidatorEntityType) → List Name
type_keys es = map (λ e. type_name_of e.0) es

abbrev pub type_names : List (EntityType × ValidatorEntityType) → List Name
type_names es = map (λ e. (entity_type_seen e.1).name) es

-- the actions
abbrev pub actions_in : List (EntityUID × ValidatorActionId) → List KeptAction
actions_in es = map (λ e. action_seen e.1) es

-- the uids under which they stand, and their own
abbrev pub action_keys : List (EntityUID × ValidatorActionId) → List Uid
action_keys es = map (λ e. uid_of e.0) es

abbrev pub action_names : List (EntityUID × ValidatorActionId) → List Uid
action_names es = map (λ e. (action_seen e.1).uid) es
