-- What the code's entity types and actions are as they are kept.
-- Rule: schemas; descent (docs/RULES.md).
use Rattle.std.specs.Prelude.{Option, map}
use Rattle.cedar_expr_names.specs.Views.{type_name_of, uid_of}
use Rattle.cedar_expr_names.specs.declared.loc.Loc.{Loc}
use Rattle.cedar_schema_types.specs.Types.{type_of, attributes_of}
use Rattle.cedar_schema_model.specs.Kept.{KeptType, Applied, KeptAction}
use Rattle.cedar_schema_entries.specs.Kinds.{kind_with}
use Rattle.cedar_schema_entries.specs.declared.entity_type.ValidatorEntityType.{ValidatorEntityType}
use Rattle.cedar_schema_entries.specs.declared.applies_to.AppliesTo.{AppliesTo}
use Rattle.cedar_schema_entries.specs.declared.action.ValidatorActionId.{ValidatorActionId}

-- the entity type, and its place
abbrev pub entity_type_seen : ValidatorEntityType → KeptType
entity_type_seen t = record { name = type_name_of t.name; kind = kind_with (attributes_of t.attributes) t.kind; descendants = map type_name_of t.descendants.keys }

abbrev pub entity_type_place : ValidatorEntityType → Option Loc
entity_type_place t = t.loc

-- what an action applies to
abbrev pub applied_seen : AppliesTo → Applied
applied_seen a = record { principals = map type_name_of a.principals.keys; resources = map type_name_of a.resources.keys }

-- the action, and its place
abbrev pub action_seen : ValidatorActionId → KeptAction
action_seen a = record {
  uid = uid_of a.name;
  applied = applied_seen a.applies_to;
  context = type_of a.context;
  is_external = a.is_external;
  descendants = map uid_of a.descendants.keys;
}

abbrev pub action_place : ValidatorActionId → Option Loc
action_place a = a.loc
