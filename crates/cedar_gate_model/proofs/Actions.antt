-- The kept actions as entities.
use Rattle.std.proofs.Common.{◌≡◌, ◌∙◌, List, [], ◌∷◌, map, true, refl, sym, ap, subst}
use Rattle.std.specs.Prelude.{Contains}
use Rattle.cedar_expr_model.specs.Uid.{Uid, uid_eq}
use Rattle.cedar_expr_model.specs.Value.{V}
use Rattle.cedar_expr_model.proofs.Equality.{uid_eq-Decides}
use Rattle.cedar_expr_model.proofs.Lists.{map_has, map_from, found-Decides}
use Rattle.cedar_store_model.specs.World.{Entity}
use Rattle.cedar_schema_model.specs.BagLaws.{HasTwice}
use Rattle.cedar_schema_model.specs.ActionEntities.{action_ancestors, as_entity}
use Rattle.cedar_schema_model.specs.Schema.{declares_action}
use Rattle.cedar_schema_model.specs.Kept.{KeptAction, Kept, kept_action_ancestors, kept_as_entity, kept_action_entities}
use Rattle.cedar_schema_model.specs.KeptLaws.{IsSameEntity}
use Rattle.cedar_gate_model.specs.ConformingLaws.{KeptActionsAreEntities}
use Rattle.cedar_gate_model.proofs.Looked.{name_found, found_name}

uids_listed : (k : Kept) (as_ : List KeptAction) → map (λ (d : Uid × Entity V). d.0) (map (λ (a : KeptAction). (a.uid, kept_as_entity k a.uid)) as_) ≡ map (λ (a : KeptAction). a.uid) as_
uids_listed k [] = refl
uids_listed k (a ∷ as_) = ap (λ us. a.uid ∷ us) (uids_listed k as_)

pub kept_are_entities : KeptActionsAreEntities
kept_are_entities s k w o = record {
  each = each;
  all = λ u e. subst (λ us. Contains us u) (sym (uids_listed k k.actions)) (found_name uid_eq uid_eq-Decides (λ (a : KeptAction). a.uid) u k.actions (sym (w.actions u) ∙ e));
  once = λ t. o.actions (subst HasTwice (uids_listed k k.actions) t);
}
  where
    same : (u : Uid) → IsSameEntity (u, kept_as_entity k u) (u, as_entity s u)
    same u = record {
      uid = refl;
      attributes = refl;
      tags = refl;
      ancestors = λ v.
          let a = found-Decides uid_eq uid_eq-Decides v (action_ancestors s u) in
          let b = found-Decides uid_eq uid_eq-Decides v (kept_action_ancestors k u) in
          (λ c. a.0 (w.ancestors u v ∙ b.1 c), λ c. b.0 (sym (w.ancestors u v) ∙ a.1 c));
    }

    each : (d : Uid × Entity V) → Contains (kept_action_entities k) d → (declares_action s d.0 ≡ true) × IsSameEntity d (d.0, as_entity s d.0)
    each d c =
        let a = map_from (λ (a : KeptAction). (a.uid, kept_as_entity k a.uid)) k.actions d c in
        let u = a.0.uid in
        subst (λ (d : Uid × Entity V). (declares_action s d.0 ≡ true) × IsSameEntity d (d.0, as_entity s d.0)) a.2
        (w.actions u ∙ name_found uid_eq uid_eq-Decides (λ (a : KeptAction). a.uid) u k.actions (map_has (λ (a : KeptAction). a.uid) k.actions a.0 a.1), same u)
