-- What actions apply to.
use Rattle.std.proofs.Common.{◌≡◌, List, map, sym, ap, ◌∙◌, subst}
use Rattle.std.specs.Prelude.{Contains}
use Rattle.std.specs.List.{list_any, filter, flat_map}
use Rattle.cedar_expr_model.specs.Name.{Name, name_eq}
use Rattle.cedar_expr_model.specs.Uid.{Uid}
use Rattle.cedar_expr_model.proofs.Equality.{name_eq-Decides}
use Rattle.cedar_expr_model.proofs.Lists.{both_hold, hold_both, map_has, map_from, filter_has, filter_only, flat_has, flat_from, found-Decides}
use Rattle.cedar_schema_model.specs.Schema.{Action, Schema}
use Rattle.cedar_schema_model.specs.Kept.{KeptAction, Kept, applies_to, kept_actions_for, kept_principals, kept_resources}
use Rattle.cedar_schema_model.specs.KeptOf.{IsSameAction, IsKeptOf}
use Rattle.cedar_schema_model.specs.KeptLaws.{ActionsForAreKept, PrincipalsAreKept, ResourcesAreKept}

abbrev principals_of : KeptAction → List Name
principals_of a = a.applied.principals

abbrev resources_of : KeptAction → List Name
resources_of a = a.applied.resources

-- the actions for principals and resources of two types
pub actions_for_kept : ActionsForAreKept
actions_for_kept s k h p r u = (only, all)
  where
    only : Contains (kept_actions_for k p r) u → (b : Action) × Contains s.actions b × (b.uid ≡ u) × Contains b.principals p × Contains b.resources r
    only c =
        let a = map_from (λ (a : KeptAction). a.uid) (filter (applies_to p r) k.actions) u c in
        let f = filter_only (applies_to p r) k.actions a.0 a.1 in
        let t = both_hold (list_any (name_eq p) a.0.applied.principals) (list_any (name_eq r) a.0.applied.resources) f.1 in
        let b = h.actions a.0 f.0 in (
          b.0,
          b.1,
          sym b.2.uid ∙ a.2,
          (b.2.principals p).0 ((found-Decides name_eq name_eq-Decides p a.0.applied.principals).0 t.0),
          (b.2.resources r).0 ((found-Decides name_eq name_eq-Decides r a.0.applied.resources).0 t.1),
        )

    all : ((b : Action) × Contains s.actions b × (b.uid ≡ u) × Contains b.principals p × Contains b.resources r) → Contains (kept_actions_for k p r) u
    all b =
        let a = h.all_actions b.0 b.1 in
        let holds =
        hold_both (list_any (name_eq p) a.0.applied.principals) (list_any (name_eq r) a.0.applied.resources)
        ((found-Decides name_eq name_eq-Decides p a.0.applied.principals).1 ((a.2.principals p).1 b.3)) ((found-Decides name_eq name_eq-Decides r a.0.applied.resources).1 ((a.2.resources r).1 b.4)) in
        subst (Contains (kept_actions_for k p r)) (a.2.uid ∙ b.2) (map_has (λ (a : KeptAction). a.uid) (filter (applies_to p r) k.actions) a.0 (filter_has (applies_to p r) k.actions a.0 a.1 holds))

-- all types of principals, and of resources
pub principals_kept : PrincipalsAreKept
principals_kept s k h n = (
  λ c. let a = flat_from principals_of k.actions n c in let b = h.actions a.0 a.1 in (b.0, b.1, (b.2.principals n).0 a.2),
  λ b. let a = h.all_actions b.0 b.1 in flat_has principals_of k.actions a.0 n a.1 ((a.2.principals n).1 b.2),
)

pub resources_kept : ResourcesAreKept
resources_kept s k h n = (
  λ c. let a = flat_from resources_of k.actions n c in let b = h.actions a.0 a.1 in (b.0, b.1, (b.2.resources n).0 a.2),
  λ b. let a = h.all_actions b.0 b.1 in flat_has resources_of k.actions a.0 n a.1 ((a.2.resources n).1 b.2),
)
