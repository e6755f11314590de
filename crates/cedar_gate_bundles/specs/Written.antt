-- Entities with their values as they are made, and stores whose values are as they are written.
-- Rule: what a bundle reads as; the store (docs/RULES.md).
use Rattle.std.specs.Prelude.{◌≡◌, List, [], ◌∷◌, map, codes, Option, Some, option_map}
use Rattle.std.specs.Map.{lookup}
use Rattle.serde_json.specs.Data.{Data}
use Rattle.cedar_expr_model.specs.Name.{Text}
use Rattle.cedar_expr_model.specs.Uid.{Uid, uid_eq}
use Rattle.cedar_expr_model.specs.Lists.{when}
use Rattle.cedar_expr_model.specs.Made.{Made}
use Rattle.cedar_expr_model.specs.Table.{Table}
use Rattle.cedar_expr_model.specs.Value.{V}
use Rattle.cedar_expr_model.specs.ValueParts.{Part, known}
use Rattle.cedar_store_model.specs.World as world
use Rattle.cedar_store_model.specs.World.{held}
use Rattle.cedar_store_entities.specs.Stores.{store_made}
use Rattle.cedar_store_entities.specs.Views.{entity_uid, entity_seen, bare_entity}
use Rattle.cedar_store_entities.specs.declared.entities.Entities.{Entities}
use Rattle.cedar_store_entities.specs.declared.entity.Entity.{Entity}
use Rattle.cedar_evaluator_model.specs.OfLaws.WellMade.{IsFoundMadeWell}
use Rattle.cedar_gate_model.specs.Reading.{given, required, optional, has_only, list_of, members_of}
use Rattle.cedar_evaluator_model.specs.Functions.{Functions}
use Rattle.cedar_gate_model.specs.ReadingName.{uid_read}
use Rattle.cedar_gate_model.specs.ReadingRequest.{with_uids}
use Rattle.cedar_gate_model.specs.ReadingValue.{value_read}
use Rattle.cedar_gate_expressions.specs.Maps.{under_text}

-- an attribute or a tag, as it is made
abbrev pub known_made : Text × Made → Text × Part Made
known_made p = (p.0, known p.1)

-- an entity and its uid, with its values as they are made
abbrev pub entity_read_made : Functions → Data → Option (Uid × world.Entity Made)
entity_read_made x d =
    when (has_only (codes "uid" ∷ codes "attrs" ∷ codes "tags" ∷ codes "ancestors" ∷ []) d)
    (given (required (codes "uid") uid_read d) (λ u.
    given (optional (codes "attrs") (members_of (under_text (value_read x))) [] d) (λ attributes.
    given (optional (codes "tags") (members_of (under_text (value_read x))) [] d) (λ tags.
    option_map (λ ancestors. (u, record { attributes = map known_made attributes; tags = map known_made tags; ancestors = with_uids [] ancestors }))
    (optional (codes "ancestors") (list_of uid_read) [] d)))))

-- the entity of the code, with its uid
abbrev pub entity_pair_made : Entity → Uid × world.Entity Made
entity_pair_made e = (entity_uid e, entity_seen e)

-- an entity with its uid, without the calls that make extension values
abbrev pub bare_entity_pair : Uid × world.Entity Made → Uid × world.Entity V
bare_entity_pair e = (e.0, bare_entity e.1)

-- the values of each of these are as they are written
abbrev pub AreWritten : Table → List (Uid × world.Entity Made) → Type 0
AreWritten x [] = Unit {0}
AreWritten x (e ∷ es) = IsFoundMadeWell x (held e.1) × AreWritten x es

-- The values of the store are as they are written.
pub record IsStoreWritten (x : Table) (s : Entities) : Type 0 where
  pub written : (u : Uid) (e : world.Entity Made) → option_map (λ k. k.0) (lookup (uid_eq u) (store_made s)) ≡ Some e → IsFoundMadeWell x (held e)
