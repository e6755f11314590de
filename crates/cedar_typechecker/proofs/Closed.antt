-- A sound schema is closed under descent.
use Rattle.std.proofs.Common.{◌≡◌, ◌∙◌, Bool, true, false, Option, Some, None, List, refl, subst}
use Rattle.std.specs.Prelude.{Contains}
use Rattle.std.specs.List.{list_any, filter}
use Rattle.std.specs.Option.{option_map_or}
use Rattle.cedar_expr_model.specs.Name.{Name, name_eq}
use Rattle.cedar_expr_model.specs.Uid.{Uid, uid_eq}
use Rattle.cedar_expr_model.proofs.Equality.{name_eq-Decides, uid_eq-Decides}
use Rattle.cedar_expr_model.proofs.Lists.{map_has, map_from, filter_has, filter_only, found-Decides}
use Rattle.cedar_schema_model.specs.Kept.{KeptType, KeptAction, Kept, kept_type, kept_action, kept_ancestors, kept_action_ancestors}
use Rattle.cedar_schema_model.specs.Sound.{IsSound}
use Rattle.cedar_typechecker_model.specs.Seen.{IsClosed, IsKeptOnce}
use Rattle.cedar_typechecker_model.proofs.Seen.Asked.{passes_found}

-- what is found passes a test
some_passes : {A : Type 0} (test : A → Bool) (o : Option A) → option_map_or test o false ≡ true → (a : A) × (o ≡ Some a) × (test a ≡ true)
some_passes test None e = cc
some_passes test (Some a) e = (a, refl, e)

module _ (x : List Name) (k : Kept) (once : IsKeptOnce k) (h : IsSound x k) where
  -- this type, or this action, is among the descendants
  abbrev has_type_below : Name → KeptType → Bool
  has_type_below m t = list_any (name_eq m) t.descendants

  abbrev has_action_below : Uid → KeptAction → Bool
  has_action_below u a = list_any (uid_eq u) a.descendants

  -- what stands above is kept, with the other below it
  type_there : (m n : Name) → Contains (kept_ancestors k m) n → (t : KeptType) × Contains k.types t × Contains t.descendants m × (t.name ≡ n)
  type_there m n c =
      let t = map_from (λ (t : KeptType). t.name) (filter (has_type_below m) k.types) n c in
      let f = filter_only (has_type_below m) k.types t.0 t.1 in
      (t.0, f.0, (found-Decides name_eq name_eq-Decides m t.0.descendants).0 f.1, t.2)

  type_found : (m n : Name) → Contains (kept_ancestors k m) n → (t : KeptType) × (kept_type k n ≡ Some t) × Contains t.descendants m
  type_found m n c =
      let found = passes_found name_eq name_eq-Decides (λ (t : KeptType). t.name) (has_type_below m) n k.types once.types in
      let p = some_passes (has_type_below m) (kept_type k n) (found ∙ (found-Decides name_eq name_eq-Decides n (kept_ancestors k m)).1 c) in
      (p.0, p.1, (found-Decides name_eq name_eq-Decides m p.0.descendants).0 p.2)

  types_on : (l m n : Name) → Contains (kept_ancestors k l) m → Contains (kept_ancestors k m) n → Contains (kept_ancestors k l) n
  types_on l m n c d =
      let t = type_there m n d in
      let u = type_found l m c in
      let below = (h.types t.0 t.1).closed m t.2 u.0 u.1 l u.2 in
      subst (Contains (kept_ancestors k l)) t.3
      (map_has (λ (t : KeptType). t.name) (filter (has_type_below l) k.types) t.0
      (filter_has (has_type_below l) k.types t.0 t.1 ((found-Decides name_eq name_eq-Decides l t.0.descendants).1 below)))

  action_there : (u v : Uid) → Contains (kept_action_ancestors k u) v → (a : KeptAction) × Contains k.actions a × Contains a.descendants u × (a.uid ≡ v)
  action_there u v c =
      let a = map_from (λ (a : KeptAction). a.uid) (filter (has_action_below u) k.actions) v c in
      let f = filter_only (has_action_below u) k.actions a.0 a.1 in
      (a.0, f.0, (found-Decides uid_eq uid_eq-Decides u a.0.descendants).0 f.1, a.2)

  action_found : (u v : Uid) → Contains (kept_action_ancestors k u) v → (a : KeptAction) × (kept_action k v ≡ Some a) × Contains a.descendants u
  action_found u v c =
      let found = passes_found uid_eq uid_eq-Decides (λ (a : KeptAction). a.uid) (has_action_below u) v k.actions once.actions in
      let p = some_passes (has_action_below u) (kept_action k v) (found ∙ (found-Decides uid_eq uid_eq-Decides v (kept_action_ancestors k u)).1 c) in
      (p.0, p.1, (found-Decides uid_eq uid_eq-Decides u p.0.descendants).0 p.2)

  actions_on : (t u v : Uid) → Contains (kept_action_ancestors k t) u → Contains (kept_action_ancestors k u) v → Contains (kept_action_ancestors k t) v
  actions_on t u v c d =
      let a = action_there u v d in
      let b = action_found t u c in
      let below = (h.actions a.0 a.1).closed u a.2 b.0 b.1 t b.2 in
      subst (Contains (kept_action_ancestors k t)) a.3
      (map_has (λ (a : KeptAction). a.uid) (filter (has_action_below t) k.actions) a.0
      (filter_has (has_action_below t) k.actions a.0 a.1 ((found-Decides uid_eq uid_eq-Decides t a.0.descendants).1 below)))

  pub sound_closed : IsClosed k
  sound_closed = record {
    types_there = λ m n c. let t = type_there m n c in (h.types t.0 t.1).below m t.2;
    types_on = types_on;
    actions_there = λ u v c. let a = action_there u v c in (h.actions a.0 a.1).below u a.2;
    actions_on = actions_on;
  }
