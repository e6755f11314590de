-- What is kept of a schema is closed: what stands above in it is what descends in the schema.
use Rattle.std.proofs.Common.{◌≡◌, ◌∙◌, sym, subst}
use Rattle.std.specs.Prelude.{Contains}
use Rattle.std.specs.List.{list_any, filter}
use Rattle.cedar_expr_model.specs.Name.{Name, name_eq}
use Rattle.cedar_expr_model.specs.Uid.{Uid, uid_eq}
use Rattle.cedar_expr_model.proofs.Equality.{name_eq-Decides, uid_eq-Decides}
use Rattle.cedar_expr_model.proofs.Lists.{map_has, map_from, filter_has, filter_only, found-Decides}
use Rattle.cedar_schema_model.specs.Schema.{EntityType, Action, Schema}
use Rattle.cedar_schema_model.specs.Descent.{type_names, action_uids, HasParent, HasActionParent, Descends, ActionDescends}
use Rattle.cedar_schema_model.proofs.Decls.Descent.{reaches_on}
use Rattle.cedar_schema_model.specs.Kept.{KeptType, KeptAction, Kept, kept_ancestors, kept_action_ancestors}
use Rattle.cedar_schema_model.specs.KeptOf.{IsKeptOf}
use Rattle.cedar_typechecker_model.specs.Seen.{names_kept, uids_kept, IsClosed}

module _ (s : Schema) (k : Kept) (h : IsKeptOf s k) where
  -- What is kept has the names and uids of the schema, and no others.
  pub name_into : (n : Name) → Contains (names_kept k) n → Contains (type_names s) n
  name_into n c =
      let t = map_from (λ (t : KeptType). t.name) k.types n c in
      let e = h.types t.0 t.1 in
      subst (Contains (type_names s)) (sym e.2.name ∙ t.2) (map_has (λ (e : EntityType). e.name) s.types e.0 e.1)

  pub name_back : (n : Name) → Contains (type_names s) n → Contains (names_kept k) n
  name_back n c =
      let e = map_from (λ (e : EntityType). e.name) s.types n c in
      let t = h.all_types e.0 e.1 in
      subst (Contains (names_kept k)) (t.2.name ∙ e.2) (map_has (λ (t : KeptType). t.name) k.types t.0 t.1)

  pub uid_into : (u : Uid) → Contains (uids_kept k) u → Contains (action_uids s) u
  uid_into u c =
      let a = map_from (λ (a : KeptAction). a.uid) k.actions u c in
      let b = h.actions a.0 a.1 in
      subst (Contains (action_uids s)) (sym b.2.uid ∙ a.2) (map_has (λ (b : Action). b.uid) s.actions b.0 b.1)

  pub uid_back : (u : Uid) → Contains (action_uids s) u → Contains (uids_kept k) u
  uid_back u c =
      let b = map_from (λ (b : Action). b.uid) s.actions u c in
      let a = h.all_actions b.0 b.1 in
      subst (Contains (uids_kept k)) (a.2.uid ∙ b.2) (map_has (λ (a : KeptAction). a.uid) k.actions a.0 a.1)

  -- what stands above an entity type, and above an action
  abbrev IsAboveType : Name → Name → Type 0
  IsAboveType m n = Contains (type_names s) m × Contains (type_names s) n × Descends s m n

  pub above_is : (m n : Name) → Contains (kept_ancestors k m) n → IsAboveType m n
  above_is m n c =
      let t = map_from (λ (t : KeptType). t.name) (filter (λ t. list_any (name_eq m) t.descendants) k.types) n c in
      let f = filter_only (λ (t : KeptType). list_any (name_eq m) t.descendants) k.types t.0 t.1 in
      let below = (h.types_below t.0 f.0 m).0 ((found-Decides name_eq name_eq-Decides m t.0.descendants).0 f.1) in
      (below.0, subst (Contains (type_names s)) t.2 (name_into t.0.name (map_has (λ (t : KeptType). t.name) k.types t.0 f.0)), subst (Descends s m) t.2 below.1)

  pub is_above : (m n : Name) → Contains (type_names s) m → Contains (type_names s) n → Descends s m n → Contains (kept_ancestors k m) n
  is_above m n d c r =
      let e = map_from (λ (e : EntityType). e.name) s.types n c in
      let t = h.all_types e.0 e.1 in
      let same : t.0.name ≡ n = t.2.name ∙ e.2 in
      let below = (h.types_below t.0 t.1 m).1 (d, subst (Descends s m) (sym same) r) in
      subst (Contains (kept_ancestors k m)) same
      (map_has (λ (t : KeptType). t.name) (filter (λ t. list_any (name_eq m) t.descendants) k.types) t.0
      (filter_has (λ (t : KeptType). list_any (name_eq m) t.descendants) k.types t.0 t.1 ((found-Decides name_eq name_eq-Decides m t.0.descendants).1 below)))

  abbrev IsAboveAction : Uid → Uid → Type 0
  IsAboveAction u v = Contains (action_uids s) u × Contains (action_uids s) v × ActionDescends s u v

  pub action_above_is : (u v : Uid) → Contains (kept_action_ancestors k u) v → IsAboveAction u v
  action_above_is u v c =
      let a = map_from (λ (a : KeptAction). a.uid) (filter (λ a. list_any (uid_eq u) a.descendants) k.actions) v c in
      let f = filter_only (λ (a : KeptAction). list_any (uid_eq u) a.descendants) k.actions a.0 a.1 in
      let below = (h.actions_below a.0 f.0 u).0 ((found-Decides uid_eq uid_eq-Decides u a.0.descendants).0 f.1) in
      (below.0, subst (Contains (action_uids s)) a.2 (uid_into a.0.uid (map_has (λ (a : KeptAction). a.uid) k.actions a.0 f.0)), subst (ActionDescends s u) a.2 below.1)

  pub is_action_above : (u v : Uid) → Contains (action_uids s) u → Contains (action_uids s) v → ActionDescends s u v → Contains (kept_action_ancestors k u) v
  is_action_above u v d c r =
      let b = map_from (λ (b : Action). b.uid) s.actions v c in
      let a = h.all_actions b.0 b.1 in
      let same : a.0.uid ≡ v = a.2.uid ∙ b.2 in
      let below = (h.actions_below a.0 a.1 u).1 (d, subst (ActionDescends s u) (sym same) r) in
      subst (Contains (kept_action_ancestors k u)) same
      (map_has (λ (a : KeptAction). a.uid) (filter (λ a. list_any (uid_eq u) a.descendants) k.actions) a.0
      (filter_has (λ (a : KeptAction). list_any (uid_eq u) a.descendants) k.actions a.0 a.1 ((found-Decides uid_eq uid_eq-Decides u a.0.descendants).1 below)))

  pub kept_closed : IsClosed k
  kept_closed = record {
    types_there = λ m n c. name_back m (above_is m n c).0;
    types_on = λ l m n c d. let p = above_is l m c in let q = above_is m n d in is_above l n p.0 q.1 (reaches_on (HasParent s) l m n p.2 q.2);
    actions_there = λ u v c. uid_back u (action_above_is u v c).0;
    actions_on = λ t u v c d. let p = action_above_is t u c in let q = action_above_is u v d in is_action_above t v p.0 q.1 (reaches_on (HasActionParent s) t u v p.2 q.2);
  }
