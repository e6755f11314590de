-- The actions as entities.
use Rattle.std.proofs.Common.{◌≡◌, true, map, refl, sym, ap, ◌∙◌, subst}
use Rattle.std.specs.Prelude.{Contains}
use Rattle.std.specs.List.{filter}
use Rattle.cedar_expr_model.specs.Uid.{Uid}
use Rattle.cedar_expr_model.specs.Value.{V}
use Rattle.cedar_expr_model.proofs.Lists.{map_has, map_from, filter_has, filter_only}
use Rattle.cedar_store_model.specs.World.{Entity}
use Rattle.cedar_schema_model.specs.Schema.{Action, Schema}
use Rattle.cedar_schema_model.specs.Descent.{action_uids, action_descends}
use Rattle.cedar_schema_model.specs.ActionEntities.{action_ancestors, as_entity, action_entities}
use Rattle.cedar_schema_model.proofs.Decls.Descent.{action_descends-Decides}
use Rattle.cedar_schema_model.specs.Kept.{KeptAction, Kept, kept_action_ancestors, kept_as_entity, kept_action_entities}
use Rattle.cedar_schema_model.specs.KeptOf.{IsSameAction, IsKeptOf}
use Rattle.cedar_schema_model.specs.KeptLaws.{IsSameEntity, ActionEntitiesAreKept, AllActionEntitiesAreKept}
use Rattle.cedar_schema_model.proofs.Above.{uid_kept, actions_above, all_actions_above}

-- an action as an entity, both ways
same_entity : (s : Schema) (k : Kept) → IsKeptOf s k → (u : Uid) → Contains (action_uids s) u → IsSameEntity (u, kept_as_entity k u) (u, as_entity s u)
same_entity s k h u d = record {
  uid = refl;
  attributes = refl;
  tags = refl;
  ancestors = λ v. (only v, all v);
}
  where
    only : (v : Uid) → Contains (kept_action_ancestors k u) v → Contains (action_ancestors s u) v
    only v c = let r = actions_above s k h u v c in filter_has (action_descends s u) (action_uids s) v r.0 ((action_descends-Decides s u v).1 r.1)

    all : (v : Uid) → Contains (action_ancestors s u) v → Contains (kept_action_ancestors k u) v
    all v c = let r = filter_only (action_descends s u) (action_uids s) v c in all_actions_above s k h u v d r.0 ((action_descends-Decides s u v).0 r.1)

pub entities_kept : ActionEntitiesAreKept
entities_kept s k h d c =
    let a = map_from (λ (a : KeptAction). (a.uid, kept_as_entity k a.uid)) k.actions d c in
    let u = a.0.uid in
    let there = uid_kept s k h a.0 a.1 in
    ((u, as_entity s u), map_has (λ u. (u, as_entity s u)) (action_uids s) u there, subst (λ (d : Uid × Entity V). IsSameEntity d (u, as_entity s u)) a.2 (same_entity s k h u there))

pub all_entities_kept : AllActionEntitiesAreKept
all_entities_kept s k h e c =
    let u = map_from (λ u. (u, as_entity s u)) (action_uids s) e c in
    let b = map_from (λ (b : Action). b.uid) s.actions u.0 u.1 in
    let a = h.all_actions b.0 b.1 in
    let same : a.0.uid ≡ u.0 = a.2.uid ∙ b.2 in (
      (u.0, kept_as_entity k u.0),
      subst (λ v. Contains (kept_action_entities k) (v, kept_as_entity k v)) same (map_has (λ (a : KeptAction). (a.uid, kept_as_entity k a.uid)) k.actions a.0 a.1),
      subst (IsSameEntity (u.0, kept_as_entity k u.0)) u.2 (same_entity s k h u.0 u.1),
    )
