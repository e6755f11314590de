-- What the laws of uids and of stores say.
-- Rule: the store; what is known; the uid text and its escape (docs/RULES.md).
use Rattle.std.specs.Prelude.{◌≡◌, true, Option, Contains}
use Rattle.cedar_expr_model.specs.Name.{Text}
use Rattle.cedar_expr_model.specs.Uid.{Uid}
use Rattle.cedar_expr_model.specs.Table.{Table}
use Rattle.cedar_expr_model.specs.Uids.{is_uid}
use Rattle.cedar_expr_model.specs.Value.{V}
use Rattle.cedar_expr_names.specs.Views.{uid_of}
use Rattle.cedar_expr_names.specs.declared.entity.EntityUID.{EntityUID}
use Rattle.cedar_store_model.specs.OfLaws.Extends.{Keeps, KeepsEntity, Extends}
use Rattle.cedar_store_model.specs.World.{Entity}
use Rattle.cedar_store_model.specs.Store as model
use Rattle.cedar_store_model.specs.Store.{partial, all_of, are_distinct, OpenRequest, world_of}
use Rattle.cedar_store_model.specs.StoreLaws.{KeepsRequest, ArePartOf, NoneStands}
use Rattle.cedar_store_entities.specs.Stores.{store_seen}
use Rattle.cedar_store_entities.specs.declared.entities.Entities.{Entities}

-- a uid of the code is a uid
abbrev pub UidsAreUids : Type 0
UidsAreUids = (u : EntityUID) → is_uid (uid_of u) ≡ true

-- no uid is repeated in a store
abbrev pub StoresAreMaps : Type 0
StoresAreMaps = (s : Entities) → are_distinct (store_seen s).entities ≡ true

-- what is known of a request and of a partial store is extended by each whole store that has its entities and lacks its absences
abbrev pub PartialIsLess : Type 0
PartialIsLess = (table : Table) (some_unknowns unknowns : Text → Option V) (q r : OpenRequest) (s : Entities) (all : model.Entities)
    → (store_seen s).extent ≡ partial → ((n : Text) → Keeps (some_unknowns n) (unknowns n)) → KeepsRequest q r → ArePartOf (store_seen s).entities all → NoneStands (store_seen s).absent all
    → are_distinct all ≡ true
    → Extends (world_of table some_unknowns q (store_seen s)) (world_of table unknowns r (all_of all))

-- each of the entities has one of its uid among those, which has the same ancestors and the same parts; a part that is no value yet
-- may be one there
abbrev pub AreFinishedIn : model.Entities → model.Entities → Type 0
AreFinishedIn es ds = (u : Uid) (e : Entity V) → Contains es (u, e) → (d : Entity V) × Contains ds (u, d) × KeepsEntity e d

-- entities that stand among those are finished there
abbrev pub PartsAreFinished : Type 0
PartsAreFinished = (es ds : model.Entities) → ArePartOf es ds → AreFinishedIn es ds

-- what is known of a request and of a partial store is extended by each whole store in which its entities are finished and which lacks its absences
abbrev pub UnfinishedIsLess : Type 0
UnfinishedIsLess = (table : Table) (some_unknowns unknowns : Text → Option V) (q r : OpenRequest) (s : Entities) (all : model.Entities)
    → (store_seen s).extent ≡ partial → ((n : Text) → Keeps (some_unknowns n) (unknowns n)) → KeepsRequest q r → AreFinishedIn (store_seen s).entities all → NoneStands (store_seen s).absent all
    → are_distinct all ≡ true
    → Extends (world_of table some_unknowns q (store_seen s)) (world_of table unknowns r (all_of all))
