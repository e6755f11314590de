-- What is loaded at a state of a session, and what may be supplied.
-- Rule: sessions; action entities; refusals of a session (docs/RULES.md).
use Rattle.std.specs.Prelude.{◌≡◌, ◌&&◌, ◌↔◌, Bool, true, Option, Some, None, List, [], Contains, if◌then◌else◌}
use Rattle.std.specs.List.{list_any}
use Rattle.std.specs.Map.{lookup}
use Rattle.cedar_expr_model.specs.Uid.{Uid, uid_eq}
use Rattle.cedar_expr_model.specs.Value.{V}
use Rattle.cedar_store_model.specs.Store.{Entities, are_distinct}
use Rattle.cedar_store_model.specs.World.{Entity, held}
use Rattle.cedar_schema_model.specs.ActionEntities.{as_entity}
use Rattle.cedar_schema_model.specs.Conforming.{entity_conforms}
use Rattle.cedar_schema_model.specs.Schema.{Schema, declares_action}
use Rattle.cedar_gate_model.specs.Session.{Setup, State}
use Rattle.cedar_typechecker_model.specs.Slice.{mentioned_by_found}

-- Two entities have the same attributes and tags, and the same ancestors in any order.
pub record IsSame (d e : Entity V) : Type 0 where
  pub attributes : d.attributes ≡ e.attributes
  pub tags : d.tags ≡ e.tags
  pub ancestors : (u : Uid) → Contains d.ancestors u ↔ Contains e.ancestors u

-- the declared actions as entities, with their ancestors in any order
abbrev pub AreActions : Schema → (Uid → Entity V) → Type 0
AreActions s acts = (u : Uid) → declares_action s u ≡ true → IsSame (acts u) (as_entity s u)

-- These are the declared actions, each once.
pub record HasActions (s : Schema) (es : Entities) : Type 0 where
  pub acts : Uid → Entity V
  pub same : AreActions s acts
  pub each : (u : Uid) → lookup (uid_eq u) es ≡ (if declares_action s u then Some (acts u) else None)
  pub distinct : are_distinct es ≡ true

-- the entity that is known of a uid: a declared action's, or what the store answered where it was asked
abbrev pub loaded_at : (Uid → Entity V) → Setup → State → Uid → Option (Entity V)
loaded_at acts x s u = if declares_action x.schema u then Some (acts u) else (if list_any (uid_eq u) s.asked then x.store u else None)

-- an entity that is under its uid and conforms; that there is none is right
abbrev pub is_right : Schema → Uid × Option (Uid × Entity V) → Bool
is_right s (u, None) = true
is_right s (u, Some e) = uid_eq u e.0 && entity_conforms s e.0 e.1

-- what an entity mentions, if there is one
abbrev pub mentioned_there : Option (Entity V) → List Uid
mentioned_there (Some e) = mentioned_by_found (held e)
mentioned_there None = []
