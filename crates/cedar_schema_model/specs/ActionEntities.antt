-- Declared actions as entities.
-- Rule: action entities (docs/RULES.md).
use Rattle.std.specs.Prelude.{List, [], map}
use Rattle.std.specs.List.{filter}
use Rattle.cedar_expr_model.specs.Uid.{Uid}
use Rattle.cedar_expr_model.specs.Value.{V}
use Rattle.cedar_store_model.specs.World.{Entity}
use Rattle.cedar_schema_model.specs.Schema.{Schema}
use Rattle.cedar_schema_model.specs.Descent.{action_uids, action_descends}

-- the declared actions that the action descends from
abbrev pub action_ancestors : Schema → Uid → List Uid
action_ancestors s u = filter (action_descends s u) (action_uids s)

-- An action as an entity: all its ancestors, neither attributes nor tags.
abbrev pub as_entity : Schema → Uid → Entity V
as_entity s u = record { attributes = []; tags = []; ancestors = action_ancestors s u }

-- the declared actions as entities
abbrev pub action_entities : Schema → List (Uid × Entity V)
action_entities s = map (λ u. (u, as_entity s u)) (action_uids s)
