-- What code stores are as the model's, and what they answer.
-- Rule: the store (docs/RULES.md).
use Rattle.std.specs.Prelude.{◌≡◌, ℕ, List, [], ◌∷◌, ◌++◌, map, Some, if◌then◌else◌}
use Rattle.std.specs.List.{list_any}
use Rattle.std.specs.Map.{lookup}
use Rattle.cedar_expr_model.specs.Uid.{Uid, uid_eq}
use Rattle.cedar_expr_trees.specs.Trees.{tree_of}
use Rattle.cedar_store_model.specs.World.{held, missing, not_loaded}
use Rattle.cedar_store_model.specs.Store.{Extent, whole, partial, Store, look_up, stand_in}
use Rattle.cedar_store_entities.specs.Uids.{uids_in}
use Rattle.cedar_store_entities.specs.Views.{Kept, entity_uid, entity_of, entity_pair, entity_kept, kept_pair}
use Rattle.cedar_store_entities.specs.declared.entity.Entity.{Entity}
use Rattle.cedar_store_entities.specs.declared.entities.Entities.{Entities}
use Rattle.cedar_store_entities.specs.declared.entities.Mark.{Mark}
use Rattle.cedar_store_entities.specs.declared.entities.Mode.{Mode}
use Rattle.cedar_store_entities.specs.declared.entities.Mode.TheVariants.{Concrete, Partial}
use Rattle.cedar_store_entities.specs.declared.entities.Dereference.{Dereference}
use Rattle.cedar_store_entities.specs.declared.entities.Dereference.TheVariants.{NoSuchEntity, Residual, Data}

abbrev pub extent_of : Mode → Extent
extent_of Concrete = whole
extent_of Partial = partial

-- the entities, in the order in which they were given
abbrev pub entities_kept : Entities → List Entity
entities_kept s = s.entities.items

-- the store
abbrev pub store_seen : Entities → Store
store_seen s = record { extent = extent_of s.mode; entities = map entity_pair (entities_kept s); absent = uids_in s.absent }

-- all that is kept of each of its entities, by its uid, in their order
abbrev pub store_made : Entities → List (Uid × Kept)
store_made s = map kept_pair (entities_kept s)

-- entities, and behind them those of others whose uids aren't among theirs yet, one after the other
abbrev pub with_new : List Entity → List Entity → List Entity
with_new es [] = es
with_new es (f ∷ fs) = with_new (if list_any (uid_eq (entity_uid f)) (map entity_uid es) then es else es ++ f ∷ []) fs

-- how many entities, and how many absences, a mark keeps
abbrev pub entities_marked : Mark → ℕ
entities_marked m = m.entities

abbrev pub absences_marked : Mark → ℕ
absences_marked m = m.absences

-- What the store answers for the uid. The entity that it gives is the one that is kept under the uid, in all that is kept of it, and
-- it is the entity of that uid.
abbrev pub Dereferences : Entities → Uid → Dereference Entity → Type 0
Dereferences s u NoSuchEntity = look_up (store_seen s) u ≡ missing
Dereferences s u (Residual e) = (look_up (store_seen s) u ≡ not_loaded) × (tree_of e ≡ stand_in u)
Dereferences s u (Data e) = (look_up (store_seen s) u ≡ held (entity_of e.now)) × (lookup (uid_eq u) (store_made s) ≡ Some (entity_kept e.now)) × (entity_uid e.now ≡ u)
