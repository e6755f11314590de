-- `in` says what its type says.
use Rattle.std.proofs.Common.{◌≡◌, ◌↔◌, ◌||◌, inl, inr, ⊎_elim, Bool, true, false, not, List, [], ◌∷◌, Option, Some, None, refl, sym, ap, ◌∙◌, subst}
use Rattle.std.specs.Prelude.{Contains, option_map, option_and_then, if◌then◌else◌}
use Rattle.std.specs.List.{list_any}
use Rattle.cedar_expr_model.specs.Name.{Name, name_eq}
use Rattle.cedar_expr_model.specs.Uid.{Uid, uid_eq}
use Rattle.cedar_expr_model.specs.Value.{entity, V, prim, set_of, Vs, no_values, value}
use Rattle.cedar_expr_model.specs.SamenessLaws.{Among}
use Rattle.cedar_expr_model.specs.Tree.{Tree}
use Rattle.cedar_expr_model.proofs.Equality.{name_eq-Decides, uid_eq-Decides}
use Rattle.cedar_expr_model.proofs.Lists.{hold_left, hold_right, any_has, any_from, contains_head, contains_tail, contains_cases, contains_none, found-Decides}
use Rattle.cedar_store_model.specs.World.{World, Entity, Found, held, missing, not_loaded}
use Rattle.cedar_store_model.specs.Operators.{says}
use Rattle.cedar_store_model.specs.Reads.{uids_in, is_in_some, found_in, within}
use Rattle.cedar_schema_model.specs.Types.{any_bool, only_false, Ty, never, bool_type, any_entity, entity_types, set_type}
use Rattle.cedar_schema_model.specs.Schema.{EntityKind, standard, enumerated, external, EntityType, Schema, declares_action, type_named}
use Rattle.cedar_schema_model.specs.Descent.{action_uids, action_descends, type_descends}
use Rattle.cedar_schema_model.specs.HasType.{HasType, HaveType}
use Rattle.cedar_schema_model.specs.Conforming.{of_kind, EntityConforms}
use Rattle.cedar_schema_model.specs.DeclLaws.{MayDescend, IsActionEntity, TypeDescends}
use Rattle.cedar_schema_model.proofs.Types.Lookups.{inside, test_cases}
use Rattle.cedar_schema_model.proofs.Types.Values.{sets_by_members, never_empty}
use Rattle.cedar_schema_model.proofs.Decls.Descent.{action_descends-Decides, type_descends-Decides, either_holds}
use Rattle.cedar_schema_model.proofs.Decls.Environments.{declares_action-Decides}
use Rattle.cedar_schema_model.proofs.Decls.Direct.{good_entity}
use Rattle.cedar_schema_model.proofs.Decls.Store.{action_entity_is}
use Rattle.cedar_typechecker_model.specs.Rules.{Setting, known_truth, entity_kinds, entity_or_set_kinds, may_be_in, written_action, written_actions, within_kinds, in_type}
use Rattle.cedar_typechecker_model.specs.Soundness.{ConformsAt}
use Rattle.cedar_typechecker_model.proofs.Sound.Shapes.{any_value, entity_value, set_value}
use Rattle.cedar_typechecker_model.proofs.Sound.Attributes.{Fine, fine_as}
use Rattle.cedar_typechecker_model.proofs.Sound.Entities.{place_by}
use Rattle.cedar_typechecker_model.proofs.Named.{Kinds, uids_among}

-- the type is one of these
abbrev pub InKinds : Kinds → Name → Type 0
InKinds (Some ns) n = Contains ns n
InKinds None n = Unit {0}

pub kinds_of_value : (t : Ty) (k : Kinds) (v : V) → entity_kinds t ≡ Some k → HasType v t → (u : Uid) × (v ≡ prim (entity u)) × InKinds k u.kind
kinds_of_value any_entity k v e h = let i = any_value v h in (i.0, i.1, subst (λ x. InKinds x i.0.kind) (inside e) tt)
kinds_of_value (entity_types ns) k v e h = let i = entity_value ns v h in (i.0, i.1, subst (λ x. InKinds x i.0.kind) (inside e) i.2)
kinds_of_value t k v e h = cc

-- members that are all entities, as uids
pub record Uids (ws : Vs) : Type 0 where
  pub list : List Uid
  pub are : uids_among ws ≡ Some list
  pub has : (z : Uid) → Among (prim (entity z)) ws → Contains list z
  pub only : (z : Uid) → Contains list z → Among (prim (entity z)) ws

uids_with : (u : Uid) (ws : Vs) → Uids ws → Uids (value (prim (entity u)) ws)
uids_with u ws r =
    record {
      list = u ∷ r.list;
      are = ap (option_map (λ us. u ∷ us)) r.are;
      has = λ z h. ⊎_elim (λ e. let q : z ≡ u = cc in subst (Contains (u ∷ r.list)) (sym q) (contains_head u r.list)) (λ k. contains_tail u r.list z (r.has z k)) h;
      only = λ z h. contains_cases (Among (prim (entity z)) (value (prim (entity u)) ws)) u r.list z h (λ e. inl (ap (λ x. prim (entity x)) (sym e))) (λ k. inr (r.only z k));
    }

pub uids_of : (ws : Vs) → ((v : V) → Among v ws → (u : Uid) × (v ≡ prim (entity u))) → Uids ws
uids_of no_values f = record { list = []; are = refl; has = λ z h. absurd h; only = λ z h. absurd (contains_none z h) }
uids_of (value v ws) f = let k = f v (inl refl) in subst (λ x. Uids (value x ws)) (sym k.1) (uids_with k.0 ws (uids_of ws (λ x i. f x (inr i))))

-- the uids of a right side
pub record Right (l : Kinds) (v : V) : Type 0 where
  pub list : List Uid
  pub are : uids_in v ≡ Some list
  pub each : (z : Uid) → Contains list z → InKinds l z.kind

pub right_one : (l : Kinds) (v : V) (u : Uid) → v ≡ prim (entity u) → InKinds l u.kind → Right l v
right_one l v u e h = record { list = u ∷ []; are = ap uids_in e; each = λ z k. contains_cases (InKinds l z.kind) u [] z k (λ q. subst (λ x. InKinds l x.kind) q h) (λ i. absurd (contains_none z i)) }

right_set : (t : Ty) (l : Kinds) (v : V) (vs : Vs) → v ≡ set_of vs → HaveType vs t → entity_kinds t ≡ Some l → Right l v
right_set t l v vs q h e =
    let f = λ (x : V) (i : Among x vs). kinds_of_value t l x e ((sets_by_members t vs).0 h x i) in
    let r = uids_of vs (λ x i. ((f x i).0, (f x i).1)) in
    record {
      list = r.list;
      are = ap uids_in q ∙ r.are;
      each = λ z k. (let i = f (prim (entity z)) (r.only z k) in let p : z ≡ i.0 = (let y : prim (entity z) ≡ prim (entity i.0) = i.1 in cc) in subst (λ x. InKinds l x.kind) (sym p) i.2);
    }

right_none : (l : Kinds) (v : V) (vs : Vs) → v ≡ set_of vs → HaveType vs never → Right l v
right_none l v no_values q h = record { list = []; are = ap uids_in q; each = λ z k. absurd (contains_none z k) }
right_none l v (value x vs) q h = absurd (never_empty x h.0)

pub right_uids : (t : Ty) (l : Kinds) (v : V) → entity_or_set_kinds t ≡ Some l → HasType v t → Right l v
right_uids any_entity l v e h = let i = kinds_of_value any_entity l v e h in right_one l v i.0 i.1 i.2
right_uids (entity_types ns) l v e h = let i = kinds_of_value (entity_types ns) l v e h in right_one l v i.0 i.1 i.2
right_uids (set_type never) l v e h = let i = set_value never v h in right_none l v i.0 i.1 i.2
right_uids (set_type any_entity) l v e h = let i = set_value any_entity v h in right_set any_entity l v i.0 i.1 i.2 e
right_uids (set_type (entity_types ns)) l v e h = let i = set_value (entity_types ns) v h in right_set (entity_types ns) l v i.0 i.1 i.2 e
right_uids t l v e h = cc

-- what an ancestor may be
may_descend_by : (s : Schema) (u v : Uid) (b : Bool) (o : Option EntityType) → (b ≡ true → Contains (action_uids s) u) → MayDescend s u (place_by b o) v → TypeDescends s u.kind v.kind
may_descend_by s u v true o f h = inr (u, f refl, refl, (v, h, refl))
may_descend_by s u v false None f h = inl h
may_descend_by s u v false (Some t) f h = by t.kind h
  where
    by : (k : EntityKind) → MayDescend s u (of_kind k) v → TypeDescends s u.kind v.kind
    by (standard as_ tags) i = inl i
    by (enumerated ids) i = absurd i
    by external i = inl i

pub ancestor_descends : (s : Schema) (u v : Uid) (d : Entity V) → EntityConforms s u d → Contains d.ancestors v → type_descends s u.kind v.kind ≡ true
ancestor_descends s u v d c h =
    (type_descends-Decides s u.kind v.kind).1 (may_descend_by s u v (declares_action s u) (type_named s u.kind) (declares_action-Decides s u).0 ((good_entity s u d c).allowed v h))

may_be : (s : Schema) (k l : Kinds) (m n : Name) → InKinds k m → InKinds l n → (name_eq m n || type_descends s m n) ≡ true → may_be_in s k l ≡ true
may_be s (Some ms) (Some ns) m n h i e = any_has (λ x. list_any (λ y. name_eq x y || type_descends s x y) ns) ms m h (any_has (λ y. name_eq m y || type_descends s m y) ns n i e)
may_be s (Some ms) None m n h i e = refl
may_be s None l m n h i e = refl

-- the test of `in`
abbrev is_among : Uid → List Uid → List Uid → Bool
is_among u ancestors zs = list_any (λ v. uid_eq u v || list_any (uid_eq v) ancestors) zs

not_among : (s : Schema) (k l : Kinds) (u : Uid) (ancestors zs : List Uid) → InKinds k u.kind → ((z : Uid) → Contains zs z → InKinds l z.kind) → ((z : Uid) → Contains ancestors z → type_descends s u.kind z.kind ≡ true) → may_be_in s k l ≡ false → not (is_among u ancestors zs) ≡ true
not_among s k l u ancestors zs h each above n =
    test_cases (is_among u ancestors zs)
    (λ e. let f = any_from (λ v. uid_eq u v || list_any (uid_eq v) ancestors) zs e in
    absurd (clash n (may_be s k l u.kind f.0.kind h (each f.0 f.1)
    (⊎_elim
    (λ q. hold_left (name_eq u.kind f.0.kind) _ ((name_eq-Decides u.kind f.0.kind).1 (ap (λ (x : Uid). x.kind) ((uid_eq-Decides u f.0).0 q))))
    (λ q. hold_right (name_eq u.kind f.0.kind) _ (above f.0 ((found-Decides uid_eq uid_eq-Decides f.0 ancestors).0 q)))
    (either_holds (uid_eq u f.0) (list_any (uid_eq f.0) ancestors) f.2)))))
    (λ e. ap not e)
  where
    clash : may_be_in s k l ≡ false → may_be_in s k l ≡ true → ⊥
    clash e f = cc

-- where the types exclude it, it is false
pub excluded : (s : Schema) (k l : Kinds) (w : World) (u : Uid) (v : V) (f : Found V) → w.store u ≡ f → ConformsAt s w u → InKinds k u.kind → Right l v → may_be_in s k l ≡ false → Fine (bool_type only_false) (found_in u v f)
excluded s k l w u v (held d) q c h r n =
    subst (λ o. Fine (bool_type only_false) (Some (is_in_some d.ancestors u o))) (sym r.are) (not_among s k l u d.ancestors r.list h r.each (λ z i. ancestor_descends s u z d (c d q) i) n)
excluded s k l w u v missing q c h r n =
    subst (λ o. Fine (bool_type only_false) (Some (is_in_some [] u o))) (sym r.are) (not_among s k l u [] r.list h r.each (λ z i. absurd (contains_none z i)) n)
excluded s k l w u v not_loaded q c h r n = tt

any_found : (u : Uid) (l : Kinds) (v : V) (f : Found V) → Right l v → Fine (bool_type any_bool) (found_in u v f)
any_found u l v (held d) r = subst (λ o. Fine (bool_type any_bool) (Some (is_in_some d.ancestors u o))) (sym r.are) refl
any_found u l v missing r = subst (λ o. Fine (bool_type any_bool) (Some (is_in_some [] u o))) (sym r.are) refl
any_found u l v not_loaded r = tt

by_types : (s : Schema) (k l : Kinds) (w : World) (u : Uid) (v : V) (b : Bool) → may_be_in s k l ≡ b → ConformsAt s w u → InKinds k u.kind → Right l v → Fine (bool_type (if b then any_bool else only_false)) (found_in u v (w.store u))
by_types s k l w u v true e c h r = any_found u l v (w.store u) r
by_types s k l w u v false e c h r = excluded s k l w u v (w.store u) refl c h r e

-- The value is a written action that is declared; and the value holds written actions, all declared.
abbrev pub WritesAction : Schema → Option Uid → V → Type 0
WritesAction s o v = (u : Uid) → o ≡ Some u → (v ≡ prim (entity u)) × (declares_action s u ≡ true)

pub record Actions (s : Schema) (us : List Uid) (v : V) : Type 0 where
  pub list : List Uid
  pub are : uids_in v ≡ Some list
  pub same : (z : Uid) → Contains list z ↔ Contains us z
  pub declared : (z : Uid) → Contains us z → declares_action s z ≡ true

abbrev pub WritesActions : Schema → Option (List Uid) → V → Type 0
WritesActions s o v = (us : List Uid) → o ≡ Some us → Actions s us v

known_good : (b c : Bool) → b ≡ c → Fine (bool_type (known_truth b)) (Some (says c))
known_good true true e = refl
known_good false false e = refl
known_good true false e = cc
known_good false true e = cc

-- two tests that hold of each other's witnesses
same_any : (p q : Uid → Bool) (xs ys : List Uid) → ((z : Uid) → Contains xs z → p z ≡ true → list_any q ys ≡ true) → ((z : Uid) → Contains ys z → q z ≡ true → list_any p xs ≡ true) → list_any p xs ≡ list_any q ys
same_any p q xs ys f g =
    test_cases (list_any p xs)
    (λ e. let k = any_from p xs e in e ∙ sym (f k.0 k.1 k.2))
    (λ e. test_cases (list_any q ys) (λ i. let k = any_from q ys i in absurd (clash e (g k.0 k.1 k.2))) (λ i. e ∙ sym i))
  where
    clash : list_any p xs ≡ false → list_any p xs ≡ true → ⊥
    clash e i = cc

-- of written actions it is as they are declared
as_declared : (s : Schema) (w : World) (u : Uid) (us : List Uid) (v : V) (f : Found V) → w.store u ≡ f → declares_action s u ≡ true → ((d : Entity V) → f ≡ held d → IsActionEntity s u d) → (f ≡ missing → ⊥) → Actions s us v
    → Fine (bool_type (known_truth (list_any (λ z. uid_eq u z || action_descends s u z) us))) (found_in u v f)
as_declared s w u us v (held d) q e act m r =
    let a = act d refl in
    subst (λ o. Fine (bool_type (known_truth (list_any (λ z. uid_eq u z || action_descends s u z) us))) (Some (is_in_some d.ancestors u o))) (sym r.are)
    (known_good _ _ (same_any (λ z. uid_eq u z || action_descends s u z) (λ z. uid_eq u z || list_any (uid_eq z) d.ancestors) us r.list
    (λ z i h. any_has (λ y. uid_eq u y || list_any (uid_eq y) d.ancestors) r.list z ((r.same z).1 i)
    (⊎_elim (λ p. hold_left (uid_eq u z) _ p)
    (λ p. hold_right (uid_eq u z) _ ((found-Decides uid_eq uid_eq-Decides z d.ancestors).1 ((a.ancestors z).1 ((declares_action-Decides s z).0 (r.declared z i), (action_descends-Decides s u z).0 p))))
    (either_holds (uid_eq u z) (action_descends s u z) h)))
    (λ z i h. any_has (λ y. uid_eq u y || action_descends s u y) us z ((r.same z).0 i)
    (⊎_elim (λ p. hold_left (uid_eq u z) _ p)
    (λ p. hold_right (uid_eq u z) _ ((action_descends-Decides s u z).1 ((a.ancestors z).0 ((found-Decides uid_eq uid_eq-Decides z d.ancestors).0 p)).1))
    (either_holds (uid_eq u z) (list_any (uid_eq z) d.ancestors) h)))))
as_declared s w u us v missing q e act m r = absurd (m refl)
as_declared s w u us v not_loaded q e act m r = tt

module _ (s : Schema) (w : World) (actions : (u : Uid) → declares_action s u ≡ true → (d : Entity V) × (w.store u ≡ held d) × EntityConforms s u d) where
  written_in : (u : Uid) (us : List Uid) (v v' : V) → WritesAction s (Some u) v → Actions s us v' → Fine (bool_type (known_truth (list_any (λ z. uid_eq u z || action_descends s u z) us))) (within w v v')
  written_in u us v v' f r =
      let k = f u refl in
      let d = actions u k.1 in
      subst (λ x. Fine (bool_type (known_truth (list_any (λ z. uid_eq u z || action_descends s u z) us))) (within w x v')) (sym k.0)
      (as_declared s w u us v' (w.store u) refl k.1
      (λ x q. let p : d.0 ≡ x = (let z : held d.0 ≡ held x = sym d.1 ∙ q in cc) in action_entity_is s u x k.1 (good_entity s u x (subst (λ (y : Entity V). EntityConforms s u y) p d.2)))
      (λ q. let z : held d.0 ≡ missing = sym d.1 ∙ q in cc) r)

  kinds_fine : (x : Setting) → x.schema ≡ s → (p : Option Uid) (q : Option (List Uid)) (k l : Kinds) (u : Uid) (v v' : V) → WritesAction s p v → WritesActions s q v' → v ≡ prim (entity u) → InKinds k u.kind → Right l v' → ConformsAt s w u → Fine (within_kinds x p q k l) (within w v v')
  kinds_fine x g (Some a) (Some us) k l u v v' f h e i r c =
      subst (λ y. Fine (bool_type (known_truth (list_any (λ z. uid_eq a z || action_descends y a z) us))) (within w v v')) (sym g) (written_in a us v v' f (h us refl))
  kinds_fine x g None q k l u v v' f h e i r c =
      subst (λ y. Fine (bool_type (if may_be_in x.schema k l then any_bool else only_false)) (within w y v')) (sym e)
      (by_types x.schema k l w u v' (may_be_in x.schema k l) refl (subst (λ y. ConformsAt y w u) (sym g) c) i r)
  kinds_fine x g (Some a) None k l u v v' f h e i r c =
      subst (λ y. Fine (bool_type (if may_be_in x.schema k l then any_bool else only_false)) (within w y v')) (sym e)
      (by_types x.schema k l w u v' (may_be_in x.schema k l) refl (subst (λ y. ConformsAt y w u) (sym g) c) i r)

  pub in_fine : (x : Setting) → x.schema ≡ s → (a b : Tree) (t u ty : Ty) (v v' : V) → WritesAction s (written_action x a) v → WritesActions s (written_actions x b) v' → HasType v t → HasType v' u → in_type x a b t u ≡ Some ty
      → ((y : Uid) → v ≡ prim (entity y) → ConformsAt s w y) → Fine ty (within w v v')
  in_fine x g a b t u ty v v' f h i j e c = by (entity_kinds t) (entity_or_set_kinds u) (λ k q. kinds_of_value t k v q i) (λ l q. right_uids u l v' q j) e
    where
      by : (o p : Option Kinds) → ((k : Kinds) → o ≡ Some k → (y : Uid) × (v ≡ prim (entity y)) × InKinds k y.kind) → ((l : Kinds) → p ≡ Some l → Right l v')
          → option_and_then (λ k. option_map (within_kinds x (written_action x a) (written_actions x b) k) p) o ≡ Some ty → Fine ty (within w v v')
      by None p m n q = cc
      by (Some k) None m n q = cc
      by (Some k) (Some l) m n q =
          let y = m k refl in
          fine_as (within_kinds x (written_action x a) (written_actions x b) k l) ty (within w v v') (inside q) (kinds_fine x g (written_action x a) (written_actions x b) k l y.0 v v' f h y.1 y.2 (n l refl) (c y.0 y.1))
