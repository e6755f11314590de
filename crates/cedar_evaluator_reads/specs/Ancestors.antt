-- The recorded ancestors of an entity that was looked up, and whether it is below another.
-- Rule: the store (docs/RULES.md).
use Rattle.std.specs.Prelude.{◌||◌, Bool, false, List, [], Option, Some, None}
use Rattle.std.specs.List.{list_any}
use Rattle.std.specs.Option.{option_map_or}
use Rattle.std.specs.Borrow.{Bor}
use Rattle.cedar_expr_model.specs.Uid.{Uid, uid_eq}
use Rattle.cedar_expr_model.specs.Value.{V}
use Rattle.cedar_store_model.specs.Reads.{uid_of}
use Rattle.cedar_store_entities.specs.Views.{entity_seen}
use Rattle.cedar_store_entities.specs.declared.entity.Entity.{Entity}

-- a missing entity has none
abbrev pub ancestors_of : Option (Bor Entity) → List Uid
ancestors_of None = []
ancestors_of (Some e) = (entity_seen e.now).ancestors

-- Whether the uid, which has these ancestors, is the entity that the value is, or is below it. A value that is no entity is none.
abbrev pub is_below_value : Uid → List Uid → V → Bool
is_below_value u above v = option_map_or (λ o. uid_eq u o || list_any (uid_eq o) above) (uid_of v) false
