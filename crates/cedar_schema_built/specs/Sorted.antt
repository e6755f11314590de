-- What is kept of a schema where its entity types and actions are put in order.
-- Rule: schemas; descent (docs/RULES.md).
use Rattle.std.specs.Prelude.{List, [], map}
use Rattle.cedar_expr_model.specs.UidOrder.{name_cmp, uid_cmp}
use Rattle.cedar_schema_model.specs.Schema.{Schema}
use Rattle.cedar_schema_model.specs.KeptOf.{IsKeptOf}
use Rattle.cedar_schema_entries.specs.Views.{entity_type_seen, action_seen}
use Rattle.cedar_schema_entries.specs.declared.entity_type.ValidatorEntityType.{ValidatorEntityType}
use Rattle.cedar_schema_entries.specs.declared.action.ValidatorActionId.{ValidatorActionId}
use Rattle.cedar_schema_assembly.specs.Pieces.{AreTypesOf, AreActionsOf}
use Rattle.cedar_schema_built.specs.Put.{all_put}

-- The entity types and actions of a schema are what is kept of it, whatever order they stand in.
abbrev pub NewKeepsTheSchema : Type 0
NewKeepsTheSchema = (s : Schema) (ts : List ValidatorEntityType) (as_ : List ValidatorActionId) → AreTypesOf s (map entity_type_seen ts) → AreActionsOf s (map action_seen as_)
    → IsKeptOf s (record { types = all_put name_cmp (λ t. t.name) [] (map entity_type_seen ts); actions = all_put uid_cmp (λ a. a.uid) [] (map action_seen as_) })
