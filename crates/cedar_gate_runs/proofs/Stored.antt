-- What a store answers is what its entities answer.
use Rattle.std.proofs.Common.{◌≡◌, List, [], ◌∷◌, Bool, true, false, Option, Some, None, refl, sym, ap, ◌∙◌, map}
use Rattle.std.specs.Prelude.{option_map, if◌then◌else◌}
use Rattle.std.specs.Map.{lookup}
use Rattle.cedar_expr_names.specs.Views.{uid_of}
use Rattle.cedar_expr_names.specs.declared.entity.EntityUID.{EntityUID}
use Rattle.cedar_expr_model.specs.Uid.{Uid, uid_eq}
use Rattle.cedar_expr_model.specs.Uids.{is_uid}
use Rattle.cedar_expr_model.specs.Made.{Made}
use Rattle.cedar_expr_model.specs.Value.{V}
use Rattle.cedar_store_model.specs.World as world
use Rattle.cedar_store_model.specs.World.{Found, missing, not_loaded}
use Rattle.cedar_store_model.specs.Store.{Extent, whole, partial, found_as, extent_for, look_up}
use Rattle.cedar_store_entities.specs.StoreParts.{entities_in, kept_in}
use Rattle.cedar_store_entities.specs.Stores.{entities_kept, store_seen, store_made}
use Rattle.cedar_store_entities.specs.Views.{Kept, bare_entity, entity_uid, entity_kept, kept_pair}
use Rattle.cedar_store_entities.specs.declared.entities.Entities.{Entities}
use Rattle.cedar_store_entities.specs.declared.entity.Entity.{Entity}
use Rattle.cedar_gate_runs.specs.Hosts.{answered_of, answer_from, stored}

abbrev pub bare_kept : Kept → world.Entity V
bare_kept k = bare_entity k.0

one_more : (b : Bool) (e : Entity) (o : Option (world.Entity V)) (k : Option Kept) → o ≡ option_map bare_kept k
    → (if b then Some (bare_kept (entity_kept e)) else o) ≡ option_map bare_kept (if b then Some (entity_kept e) else k)
one_more true e o k h = refl
one_more false e o k h = h

-- what is found without the calls is what is kept, without them
pub found_bare : (es : List Entity) (u : Uid) → lookup (uid_eq u) (entities_in es) ≡ option_map bare_kept (lookup (uid_eq u) (kept_in es))
found_bare [] u = refl
found_bare (e ∷ es) u = one_more (uid_eq u (entity_uid e)) e _ _ (found_bare es u)

none_kept : (k : Option Kept) (o : Option (world.Entity V)) → o ≡ option_map bare_kept k → o ≡ None → k ≡ None
none_kept None o e n = refl
none_kept (Some k) o e n = cc

of_uid : {A : Type 0} (b : Bool) (f g y : Found A) → b ≡ true → (if b then f else g) ≡ y → f ≡ y
of_uid true f g y e h = h
of_uid false f g y e h = cc

is_missing : (x : Extent) (o : Option (world.Entity V)) → found_as x o ≡ missing → o ≡ None
is_missing x (Some f) h = cc
is_missing whole None h = refl
is_missing partial None h = refl

is_unloaded : (x : Extent) (o : Option (world.Entity V)) → found_as x o ≡ not_loaded → o ≡ None
is_unloaded x (Some f) h = cc
is_unloaded whole None h = refl
is_unloaded partial None h = refl

-- a copy of what is held is answered
pub by_copy : (s : Entities) (u : Uid) (v : EntityUID) (e c : Entity) → uid_of v ≡ u → lookup (uid_eq u) (store_made s) ≡ Some (entity_kept e) → entity_uid e ≡ u → entity_uid c ≡ entity_uid e → entity_kept c ≡ entity_kept e
    → answered_of (v, Some c) ≡ answer_from (stored (store_made s)) u
by_copy s u v e c same h own copy kept =
    let entity : (entity_kept c).0 ≡ (entity_kept e).0 = ap (λ (k : Kept). k.0) kept in
    let pair : (entity_uid c, (entity_kept c).0) ≡ (u, (entity_kept e).0) = λ i. ((copy ∙ own) i, entity i) in
    λ i. (same i, (ap Some pair ∙ ap (λ (o : Option Kept). option_map (λ (x : world.Entity Made). (u, x)) (option_map (λ (k : Kept). k.0) o)) (sym h)) i)

module _ (s : Entities) (u : Uid) (v : EntityUID) (uid : is_uid u ≡ true) (same : uid_of v ≡ u) where
  by_nothing : lookup (uid_eq u) (entities_in (entities_kept s)) ≡ None → answered_of (v, None) ≡ answer_from (stored (store_made s)) u
  by_nothing n =
      let none : lookup (uid_eq u) (store_made s) ≡ None = none_kept _ _ (found_bare (entities_kept s) u) n in
      λ i. (same i, ap (λ (o : Option Kept). option_map (λ (x : world.Entity Made). (u, x)) (option_map (λ (k : Kept). k.0) o)) (sym none) i)

  -- nothing is answered where nothing is held
  pub by_none : look_up (store_seen s) u ≡ missing → answered_of (v, None) ≡ answer_from (stored (store_made s)) u
  by_none h = by_nothing (is_missing (extent_for (store_seen s) u) _ (of_uid (is_uid u) (found_as (extent_for (store_seen s) u) (lookup (uid_eq u) (entities_in (entities_kept s)))) missing missing uid h))

  pub by_unloaded : look_up (store_seen s) u ≡ not_loaded → answered_of (v, None) ≡ answer_from (stored (store_made s)) u
  by_unloaded h = by_nothing (is_unloaded (extent_for (store_seen s) u) _ (of_uid (is_uid u) (found_as (extent_for (store_seen s) u) (lookup (uid_eq u) (entities_in (entities_kept s)))) missing not_loaded uid h))
