-- What a store answers for a uid.
use Rattle.std.proofs.Common.{◌≡◌, ℕ, cond, List, map, Option, Some, None, sym, ap, ◌∙◌}
use Rattle.std.specs.List.{slice_get}
use Rattle.std.specs.Map.{lookup}
use Rattle.cedar_expr_names.specs.Views.{uid_of}
use Rattle.cedar_expr_names.specs.declared.entity.EntityUID.{EntityUID}
use Rattle.cedar_expr_model.specs.Uid.{Uid, uid_eq}
use Rattle.cedar_expr_model.specs.Value.{V}
use Rattle.cedar_expr_model.proofs.Equality.{uid_eq-Decides}
use Rattle.cedar_expr_values.proofs.Ranged.{each_is_uid}
use Rattle.cedar_store_model.specs.World as model
use Rattle.cedar_store_model.specs.World.{held, missing}
use Rattle.cedar_store_model.specs.Store.{Extent, Store, found_as, extent_for, look_up}
use Rattle.cedar_store_entities.specs.Places.{place_in}
use Rattle.cedar_store_entities.specs.Views.{entity_uid, entity_of, entity_pair, entity_kept, kept_pair}
use Rattle.cedar_store_entities.specs.declared.entity.Entity.{Entity}
use Rattle.cedar_store_entities.proofs.Placed.{seen_there, seen_nowhere, own_place}

abbrev store_with : Extent → List Entity → List Uid → Store
store_with x es us = record { extent = x; entities = map entity_pair es; absent = us }

module _ (x : Extent) (es : List Entity) (us : List Uid) (u : EntityUID) where
  answered : (o : Option (model.Entity V)) → lookup (uid_eq (uid_of u)) (map entity_pair es) ≡ o → look_up (store_with x es us) (uid_of u) ≡ found_as (extent_for (store_with x es us) (uid_of u)) o
  answered o h =
      let y = extent_for (store_with x es us) (uid_of u) in
      ap (λ b. cond b (found_as y (lookup (uid_eq (uid_of u)) (map entity_pair es))) missing) (each_is_uid u) ∙ ap (found_as y) h

  -- what it answers where an entity stands at the place of the uid, and where the uid has no place
  pub stored : (n : ℕ) (e : Entity) → place_in (map entity_uid es) (uid_of u) ≡ Some n → slice_get es n ≡ Some e
      → (look_up (store_with x es us) (uid_of u) ≡ held (entity_of e)) × (lookup (uid_eq (uid_of u)) (map kept_pair es) ≡ Some (entity_kept e)) × (entity_uid e ≡ uid_of u)
  stored n e p h = (
    answered (Some (entity_of e)) (seen_there entity_uid entity_of es (uid_of u) n e p h),
    seen_there entity_uid entity_kept es (uid_of u) n e p h,
    sym ((uid_eq-Decides (uid_of u) (entity_uid e)).0 (own_place entity_uid es (uid_of u) n e p h)),
  )

  pub not_stored : place_in (map entity_uid es) (uid_of u) ≡ None → look_up (store_with x es us) (uid_of u) ≡ found_as (extent_for (store_with x es us) (uid_of u)) None
  not_stored p = answered None (seen_nowhere entity_uid entity_of es (uid_of u) p)
