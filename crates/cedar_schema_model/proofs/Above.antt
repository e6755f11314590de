-- The ancestors of an entity type, and of an action.
use Rattle.std.proofs.Common.{◌≡◌, Bool, true, not, List, [], ◌∷◌, map, refl, sym, ap, ◌∙◌, subst}
use Rattle.std.specs.Prelude.{Contains}
use Rattle.std.specs.List.{list_any, filter}
use Rattle.cedar_expr_model.specs.Name.{Name, name_eq}
use Rattle.cedar_expr_model.specs.Uid.{Uid, uid_eq}
use Rattle.cedar_expr_model.proofs.Equality.{name_eq-Decides, uid_eq-Decides}
use Rattle.cedar_expr_model.specs.Lists.{is_nil}
use Rattle.cedar_expr_model.proofs.Lists.{contains_head, contains_none, map_has, map_from, filter_has, filter_only, found-Decides}
use Rattle.cedar_schema_model.specs.Schema.{EntityType, Action, Schema}
use Rattle.cedar_schema_model.specs.Descent.{type_names, action_uids, Descends, ActionDescends}
use Rattle.cedar_schema_model.specs.Kept.{KeptType, KeptAction, Kept, kept_ancestors, kept_groups, kept_action_ancestors}
use Rattle.cedar_schema_model.specs.KeptOf.{IsSameType, IsSameAction, IsKeptOf}
use Rattle.cedar_schema_model.specs.KeptLaws.{AncestorsAreAbove, GroupsAreKept}

abbrev type_name : KeptType → Name
type_name t = t.name

abbrev action_uid : KeptAction → Uid
action_uid a = a.uid

-- names of what is kept are declared
name_kept : (s : Schema) (k : Kept) → IsKeptOf s k → (t : KeptType) → Contains k.types t → Contains (type_names s) t.name
name_kept s k h t c = let e = h.types t c in subst (Contains (type_names s)) (sym e.2.name) (map_has (λ (e : EntityType). e.name) s.types e.0 e.1)

pub uid_kept : (s : Schema) (k : Kept) → IsKeptOf s k → (a : KeptAction) → Contains k.actions a → Contains (action_uids s) a.uid
uid_kept s k h a c = let b = h.actions a c in subst (Contains (action_uids s)) (sym b.2.uid) (map_has (λ (b : Action). b.uid) s.actions b.0 b.1)

pub ancestors_above : AncestorsAreAbove
ancestors_above s k h n m d = (only, all)
  where
    test : KeptType → Bool
    test t = list_any (name_eq n) t.descendants

    only : Contains (kept_ancestors k n) m → Contains (type_names s) m × Descends s n m
    only c =
        let r = map_from type_name (filter test k.types) m c in
        let f = filter_only test k.types r.0 r.1 in
        let below = (h.types_below r.0 f.0 n).0 ((found-Decides name_eq name_eq-Decides n r.0.descendants).0 f.1) in
        (subst (Contains (type_names s)) r.2 (name_kept s k h r.0 f.0), subst (Descends s n) r.2 below.1)

    all : Contains (type_names s) m × Descends s n m → Contains (kept_ancestors k n) m
    all p =
        let e = map_from (λ (e : EntityType). e.name) s.types m p.0 in
        let t = h.all_types e.0 e.1 in
        let same : t.0.name ≡ m = t.2.name ∙ e.2 in
        let below = (h.types_below t.0 t.1 n).1 (d, subst (Descends s n) (sym same) p.1) in
        subst (Contains (kept_ancestors k n)) same (map_has type_name (filter test k.types) t.0 (filter_has test k.types t.0 t.1 ((found-Decides name_eq name_eq-Decides n t.0.descendants).1 below)))

-- The ancestors of an action are declared actions that it descends from, and those of a declared action are all of these.
pub actions_above : (s : Schema) (k : Kept) → IsKeptOf s k → (u v : Uid) → Contains (kept_action_ancestors k u) v → Contains (action_uids s) v × ActionDescends s u v
actions_above s k h u v c =
    let r = map_from action_uid (filter (λ a. list_any (uid_eq u) a.descendants) k.actions) v c in
    let f = filter_only (λ (a : KeptAction). list_any (uid_eq u) a.descendants) k.actions r.0 r.1 in
    let below = (h.actions_below r.0 f.0 u).0 ((found-Decides uid_eq uid_eq-Decides u r.0.descendants).0 f.1) in
    (subst (Contains (action_uids s)) r.2 (uid_kept s k h r.0 f.0), subst (ActionDescends s u) r.2 below.1)

pub all_actions_above : (s : Schema) (k : Kept) → IsKeptOf s k → (u v : Uid) → Contains (action_uids s) u → Contains (action_uids s) v → ActionDescends s u v → Contains (kept_action_ancestors k u) v
all_actions_above s k h u v d p q =
    let b = map_from (λ (b : Action). b.uid) s.actions v p in
    let a = h.all_actions b.0 b.1 in
    let same : a.0.uid ≡ v = a.2.uid ∙ b.2 in
    let below = (h.actions_below a.0 a.1 u).1 (d, subst (ActionDescends s u) (sym same) q) in
    subst (Contains (kept_action_ancestors k u)) same (map_has action_uid (filter (λ a. list_any (uid_eq u) a.descendants) k.actions) a.0 (filter_has (λ (a : KeptAction). list_any (uid_eq u) a.descendants) k.actions a.0 a.1 ((found-Decides uid_eq uid_eq-Decides u a.0.descendants).1 below)))

-- an action that some action descends from
some_below : (us : List Uid) → not (is_nil us) ≡ true → (v : Uid) × Contains us v
some_below [] e = absurd (cc)
some_below (u ∷ us) e = (u, contains_head u us)

not_none : (us : List Uid) (v : Uid) → Contains us v → not (is_nil us) ≡ true
not_none [] v c = absurd (contains_none v c)
not_none (u ∷ us) v c = refl

pub groups_kept : GroupsAreKept
groups_kept s k h u = (only, all)
  where
    test : KeptAction → Bool
    test a = not (is_nil a.descendants)

    only : Contains (kept_groups k) u → Contains (action_uids s) u × ((v : Uid) × Contains (action_uids s) v × ActionDescends s v u)
    only c =
        let r = map_from action_uid (filter test k.actions) u c in
        let f = filter_only test k.actions r.0 r.1 in
        let v = some_below r.0.descendants f.1 in
        let below = (h.actions_below r.0 f.0 v.0).0 v.1 in
        (subst (Contains (action_uids s)) r.2 (uid_kept s k h r.0 f.0), (v.0, below.0, subst (ActionDescends s v.0) r.2 below.1))

    all : Contains (action_uids s) u × ((v : Uid) × Contains (action_uids s) v × ActionDescends s v u) → Contains (kept_groups k) u
    all p =
        let b = map_from (λ (b : Action). b.uid) s.actions u p.0 in
        let a = h.all_actions b.0 b.1 in
        let same : a.0.uid ≡ u = a.2.uid ∙ b.2 in
        let v = p.1.0 in
        let below = (h.actions_below a.0 a.1 v).1 (p.1.1, subst (ActionDescends s v) (sym same) p.1.2) in
        subst (Contains (kept_groups k)) same (map_has action_uid (filter test k.actions) a.0 (filter_has test k.actions a.0 a.1 (not_none a.0.descendants v below)))
