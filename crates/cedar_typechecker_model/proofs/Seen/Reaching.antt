-- Descent in a schema as it is seen is one step, where what is kept is closed.
use Rattle.std.proofs.Common.{◌≡◌, ◌↔◌, ◌∙◌, List, [], ◌∷◌, sym, ap, subst}
use Rattle.std.specs.Prelude.{Contains}
use Rattle.std.specs.Bool.{one_answer}
use Rattle.std.specs.List.{list_any}
use Rattle.cedar_expr_model.specs.Name.{Name, name_eq}
use Rattle.cedar_expr_model.specs.Uid.{Uid, uid_eq}
use Rattle.cedar_expr_model.proofs.Equality.{name_eq-Decides, uid_eq-Decides}
use Rattle.cedar_expr_model.proofs.Lists.{map_has, map_from, found-Decides}
use Rattle.cedar_schema_model.specs.Schema.{EntityType, Action}
use Rattle.cedar_schema_model.specs.Descent.{Chain, HasParent, HasActionParent, Descends, descends, ActionDescends, action_descends}
use Rattle.cedar_schema_model.proofs.Decls.Descent.{descends-Decides, action_descends-Decides}
use Rattle.cedar_schema_model.specs.Kept.{KeptType, KeptAction, Kept, kept_ancestors, kept_action_ancestors}
use Rattle.cedar_typechecker_model.specs.Seen.{type_seen, action_seen, schema_seen, names_kept, uids_kept, IsClosed}

-- what follows from a step, and goes on, follows from a chain
pub along : {X : Type 0} (step follows : X → X → Type 0) → ((x y : X) → step x y → follows x y) → ((x y z : X) → follows x y → follows y z → follows x z) → (x : X) (zs : List X) (y : X) → Chain step x zs y → follows x y
along step follows one on x [] y c = one x y c
along step follows one on x (z ∷ zs) y c = on x z y (one x z c.0) (along step follows one on z zs y c.1)

module _ (k : Kept) where
  parent_above : (m n : Name) → HasParent (schema_seen k) m n → Contains (kept_ancestors k m) n
  parent_above m n h =
      let t = map_from (type_seen k) k.types h.0 h.1 in
      let same : t.0.name ≡ m = ap (λ (e : EntityType). e.name) t.2 ∙ sym h.2 in
      subst (λ l. Contains l n) (sym (ap (λ (e : EntityType). e.parents) t.2) ∙ ap (kept_ancestors k) same) h.3

  above_parent : (m n : Name) → Contains (names_kept k) m → Contains (kept_ancestors k m) n → HasParent (schema_seen k) m n
  above_parent m n d c =
      let t = map_from (λ (t : KeptType). t.name) k.types m d in
      (type_seen k t.0, map_has (type_seen k) k.types t.0 t.1, sym t.2, subst (λ x. Contains (kept_ancestors k x) n) (sym t.2) c)

  action_parent_above : (u v : Uid) → HasActionParent (schema_seen k) u v → Contains (kept_action_ancestors k u) v
  action_parent_above u v h =
      let a = map_from (action_seen k) k.actions h.0 h.1 in
      let same : a.0.uid ≡ u = ap (λ (b : Action). b.uid) a.2 ∙ sym h.2 in
      subst (λ l. Contains l v) (sym (ap (λ (b : Action). b.parents) a.2) ∙ ap (kept_action_ancestors k) same) h.3

  above_action_parent : (u v : Uid) → Contains (uids_kept k) u → Contains (kept_action_ancestors k u) v → HasActionParent (schema_seen k) u v
  above_action_parent u v d c =
      let a = map_from (λ (a : KeptAction). a.uid) k.actions u d in
      (action_seen k a.0, map_has (action_seen k) k.actions a.0 a.1, sym a.2, subst (λ x. Contains (kept_action_ancestors k x) v) (sym a.2) c)

module _ (k : Kept) (h : IsClosed k) where
  pub descends_above : (m n : Name) → Descends (schema_seen k) m n ↔ Contains (kept_ancestors k m) n
  descends_above m n = (
    λ c. along (HasParent (schema_seen k)) (λ x y. Contains (kept_ancestors k x) y) (parent_above k) h.types_on m c.0 n c.1,
    λ c. ([], above_parent k m n (h.types_there m n c) c),
  )

  pub action_descends_above : (u v : Uid) → ActionDescends (schema_seen k) u v ↔ Contains (kept_action_ancestors k u) v
  action_descends_above u v = (
    λ c. along (HasActionParent (schema_seen k)) (λ x y. Contains (kept_action_ancestors k x) y) (action_parent_above k) h.actions_on u c.0 v c.1,
    λ c. ([], above_action_parent k u v (h.actions_there u v c) c),
  )

  -- as tests
  pub descends_one : (m n : Name) → descends (schema_seen k) m n ≡ list_any (name_eq n) (kept_ancestors k m)
  descends_one m n =
      let d = descends-Decides (schema_seen k) m n in
      let f = found-Decides name_eq name_eq-Decides n (kept_ancestors k m) in
      let b = descends_above m n in
      one_answer _ _ (λ e. b.0 (d.0 e), λ c. d.1 (b.1 c)) f

  pub action_descends_one : (u v : Uid) → action_descends (schema_seen k) u v ≡ list_any (uid_eq v) (kept_action_ancestors k u)
  action_descends_one u v =
      let d = action_descends-Decides (schema_seen k) u v in
      let f = found-Decides uid_eq uid_eq-Decides v (kept_action_ancestors k u) in
      let b = action_descends_above u v in
      one_answer _ _ (λ e. b.0 (d.0 e), λ c. d.1 (b.1 c)) f
