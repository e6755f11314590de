-- The entities that a session loads, and what is supplied of them.
-- Rule: sessions; the store (docs/RULES.md).
use Rattle.std.specs.Prelude.{◌≡◌, ◌||◌, Bool, false, List, [], ◌∷◌, ◌++◌, map, Option, Some, None, option_map, option_to_list}
use Rattle.std.specs.List.{flat_map, list_any}
use Rattle.std.specs.declared.alloc.Global.{Global}
use Rattle.std.specs.declared.vec.Vec.{Vec}
use Rattle.cedar_expr_model.specs.Uid.{Uid, uid_eq}
use Rattle.cedar_expr_model.specs.Value.{V}
use Rattle.cedar_expr_names.specs.Views.{uid_of}
use Rattle.cedar_expr_names.specs.declared.entity.EntityUID.{EntityUID}
use Rattle.cedar_store_entities.specs.Refusals.{is_absent, is_present}
use Rattle.cedar_store_entities.specs.Stores.{entities_kept, store_seen, with_new}
use Rattle.cedar_store_entities.specs.Views.{entity_of, entity_pair}
use Rattle.cedar_store_entities.specs.declared.entities.Entities.{Entities}
use Rattle.cedar_store_entities.specs.declared.entity.Entity.{Entity}
use Rattle.cedar_store_model.specs.Store.{Store}
use Rattle.cedar_store_model.specs.World as world
use Rattle.cedar_gate_wanted.specs.Rows.{uids}
use Rattle.cedar_gate_model.specs.Session.{Supplied}
use Rattle.cedar_gate_sessions.specs.Loaded.{mentioned_there}

-- what was supplied, and for which uids
abbrev pub supplied_pair : EntityUID × Option Entity → Uid × Option (Uid × world.Entity V)
supplied_pair p = (uid_of p.0, option_map entity_pair p.1)

abbrev pub supplied_of : List (EntityUID × Option Entity) → Supplied
supplied_of ps = map supplied_pair ps

abbrev pub supplied_uids : List (EntityUID × Option Entity) → List Uid
supplied_uids ps = map (λ p. uid_of p.0) ps

-- the entities in it
abbrev pub supplied_entities : List (EntityUID × Option Entity) → List Entity
supplied_entities ps = flat_map (λ p. option_to_list p.1) ps

-- what an entity mentions, if there is one
abbrev pub mentioned_by_this : Option Entity → List Uid
mentioned_by_this e = mentioned_there (option_map entity_of e)

-- the rows of what was supplied: what stands at each uid, and what is mentioned there
abbrev pub row_pair : EntityUID × Vec EntityUID Global → Uid × List Uid
row_pair p = (uid_of p.0, uids p.1.items)

abbrev pub mentions_pair : EntityUID × Option Entity → Uid × List Uid
mentions_pair p = (uid_of p.0, mentioned_by_this p.1)

-- the uids among them that have no entity
abbrev pub missing_of : EntityUID × Option Entity → List Uid
missing_of (u, None) = uid_of u ∷ []
missing_of (u, Some e) = []

abbrev pub missing_uids : List (EntityUID × Option Entity) → List Uid
missing_uids ps = flat_map missing_of ps

-- whether a uid is one of these
abbrev pub is_among : List Uid → Uid → Bool
is_among us u = list_any (uid_eq u) us

-- One store is the other with absences recorded: of the uids for which the test holds, where there is no entity.
pub record RecordsAbsences (lacks : Uid → Bool) (old new : Store) : Type 0 where
  pub extent : new.extent ≡ old.extent
  pub entities : new.entities ≡ old.entities
  pub absent : (u : Uid) → is_present old u ≡ false → is_absent new u ≡ (is_absent old u || lacks u)

-- a store with these entities in place of its own
abbrev pub with_entities : Store → List Entity → Store
with_entities s es = record s { entities = map entity_pair es }

-- These entities are added to what is loaded, and it is recorded that there are none of these uids.
pub record AddsAnswers (es : List Entity) (missing : List Uid) (old new : Entities) : Type 0 where
  pub kept : entities_kept new ≡ with_new (entities_kept old) es
  pub recorded : RecordsAbsences (is_among missing) (with_entities (store_seen old) (entities_kept new)) (store_seen new)

-- a list goes on where another ends
abbrev pub Grows : {A : Type 0} → List A → List A → Type 0
Grows {A = A} xs ys = (more : List A) × (ys ≡ xs ++ more)

-- A store has more entities and absences behind those of another.
pub record IsGrown (old new : Entities) : Type 0 where
  pub entities : Grows (entities_kept old) (entities_kept new)
  pub absent : Grows (store_seen old).absent (store_seen new).absent
  pub extent : (store_seen new).extent ≡ (store_seen old).extent

-- Two stores have the same entities and absences.
pub record IsSameStore (old new : Entities) : Type 0 where
  pub entities : entities_kept new ≡ entities_kept old
  pub seen : store_seen new ≡ store_seen old
