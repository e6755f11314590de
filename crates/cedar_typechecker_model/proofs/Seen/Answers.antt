-- A schema as it is seen answers as the schema of which it is kept.
use Rattle.std.proofs.Common.{◌≡◌, ◌↔◌, ◌∙◌, List, Bool, true, false, not, ◌&&◌, Option, Some, None, is_some, refl, sym, ap, subst, inl, inr, ⊎_elim}
use Rattle.std.specs.Prelude.{Contains}
use Rattle.std.specs.Bool.{one_answer}
use Rattle.std.specs.List.{list_any}
use Rattle.std.specs.Option.{option_map_or}
use Rattle.std.specs.Str.{bytes_eq}
use Rattle.cedar_expr_model.specs.Name.{Text, Name, name_eq}
use Rattle.cedar_expr_model.specs.Uid.{Uid}
use Rattle.cedar_expr_model.proofs.Lists.{map_has, map_from, filter_has, filter_only, any_has, any_from}
use Rattle.cedar_schema_model.specs.Types.{attribute_named}
use Rattle.cedar_schema_model.specs.Schema.{EntityKind, standard, enumerated, external, EntityType, Action, Schema, type_named, declares_type, declares_action}
use Rattle.cedar_schema_model.specs.Descent.{type_names, action_uids, HasParent, HasActionParent, Descends, descends, ActionDescends, action_descends, type_descends}
use Rattle.cedar_schema_model.specs.DeclLaws.{TypeDescends, IsProduct}
use Rattle.cedar_schema_model.specs.Conforming.{of_kind, attributes_at, tags_at}
use Rattle.cedar_schema_model.specs.Environment.{Environment, environment_at, environments, types_above}
use Rattle.cedar_schema_model.specs.Lookup.{declared_of}
use Rattle.cedar_schema_model.proofs.Decls.Descent.{chain_starts, descends-Decides, action_descends-Decides, type_descends-Decides}
use Rattle.cedar_schema_model.proofs.Decls.Environments.{products}
use Rattle.cedar_schema_model.specs.Kept.{KeptType, KeptAction, Kept, kept_type, kept_action}
use Rattle.cedar_schema_model.specs.KeptOf.{IsSameKind, IsSameAction, IsKeptOf}
use Rattle.cedar_schema_model.specs.KeptLaws.{TypesAreDeclared, ActionsAreDeclared, TypesAreFound}
use Rattle.cedar_typechecker_model.specs.Rules.{tags_of}
use Rattle.cedar_typechecker_model.specs.ScopeRules.{is_action_type, has_id, is_no_unknown_member}
use Rattle.cedar_typechecker_model.specs.Alike.{AnswersAlike, DescendsToDeclared}
use Rattle.cedar_typechecker_model.specs.Seen.{context_of, type_seen, action_seen, schema_seen, IsClosed}
use Rattle.cedar_typechecker_model.proofs.Alike.Schemas.{same_test}
use Rattle.cedar_typechecker_model.proofs.Seen.Found.{type_found, action_found, type_names_seen, action_uids_seen, some_seen, then_there, by_kind}
use Rattle.cedar_typechecker_model.proofs.Seen.Reaching.{descends_above, action_descends_above}
use Rattle.cedar_typechecker_model.proofs.Seen.Above.{name_into, name_back, uid_into, uid_back, above_is, is_above, action_above_is, is_action_above, kept_closed}

-- a test of some member, in lists with the same members
any_within : {X : Type 0} (p : X → Bool) (xs ys : List X) → ((x : X) → Contains xs x → Contains ys x) → list_any p xs ≡ true → list_any p ys ≡ true
any_within p xs ys h e = let r = any_from p xs e in any_has p ys r.0 (h r.0 r.1) r.2

any_alike : {X : Type 0} (p : X → Bool) (xs ys : List X) → ((x : X) → Contains xs x → Contains ys x) → ((x : X) → Contains ys x → Contains xs x) → list_any p xs ≡ list_any p ys
any_alike p xs ys f g = same_test (list_any p xs) (list_any p ys) (any_within p xs ys f) (any_within p ys xs g)

-- what kinds tell that are the same
same_attributes : (j i : EntityKind) → IsSameKind j i → attributes_at (of_kind j) ≡ attributes_at (of_kind i)
same_attributes (standard as_ t) i h = ap (λ y. attributes_at (of_kind y)) (sym h)
same_attributes (enumerated ids) i h = ap (λ y. attributes_at (of_kind y)) (sym h.1)
same_attributes external i h = ap (λ y. attributes_at (of_kind y)) (sym h)

same_tags : (j i : EntityKind) → IsSameKind j i → tags_at (of_kind j) ≡ tags_at (of_kind i)
same_tags (standard as_ t) i h = ap (λ y. tags_at (of_kind y)) (sym h)
same_tags (enumerated ids) i h = ap (λ y. tags_at (of_kind y)) (sym h.1)
same_tags external i h = ap (λ y. tags_at (of_kind y)) (sym h)

same_ids : (id : Text) (j i : EntityKind) → IsSameKind j i → has_id j id ≡ has_id i id
same_ids id (standard as_ t) i h = ap (λ y. has_id y id) (sym h)
same_ids id (enumerated ids) i h = any_alike (bytes_eq id) ids h.0 (λ x. (h.2 x).0) (λ x. (h.2 x).1) ∙ ap (λ y. has_id y id) (sym h.1)
same_ids id external i h = ap (λ y. has_id y id) (sym h)

none_there : (o : Option EntityType) → false ≡ is_some o → o ≡ None
none_there None h = refl
none_there (Some e) h = cc

-- chains of declared parents begin at what is declared
parent_declared : (s : Schema) (m n : Name) → HasParent s m n → Contains (type_names s) m
parent_declared s m n h = subst (Contains (type_names s)) (sym h.2) (map_has (λ (t : EntityType). t.name) s.types h.0 h.1)

begins_declared : (s : Schema) (m n : Name) → Descends s m n → Contains (type_names s) m
begins_declared s m n c = chain_starts (HasParent s) (type_names s) (parent_declared s) m c.0 n c.1

action_parent_declared : (s : Schema) (u v : Uid) → HasActionParent s u v → Contains (action_uids s) u
action_parent_declared s u v h = subst (Contains (action_uids s)) (sym h.2) (map_has (λ (a : Action). a.uid) s.actions h.0 h.1)

action_begins_declared : (s : Schema) (u v : Uid) → ActionDescends s u v → Contains (action_uids s) u
action_begins_declared s u v c = chain_starts (HasActionParent s) (action_uids s) (action_parent_declared s) u c.0 v c.1

module _ (declared : TypesAreDeclared) (actions_declared : ActionsAreDeclared) (found : TypesAreFound) (s : Schema) (k : Kept) (h : IsKeptOf s k) (d : DescendsToDeclared s) where
  abbrev t : Schema
  t = schema_seen k

  abbrev closed : IsClosed k
  closed = kept_closed s k h

  -- declared types and actions
  types_alike : (n : Name) → declares_type s n ≡ declares_type t n
  types_alike n = sym (ap is_some (type_found k n) ∙ some_seen (type_seen k) (kept_type k n) ∙ declared s k h n)

  actions_alike : (u : Uid) → declares_action s u ≡ declares_action t u
  actions_alike u = sym (ap is_some (action_found k u) ∙ some_seen (action_seen k) (kept_action k u) ∙ actions_declared s k h u)

  names_there : (n : Name) → Contains (type_names s) n → Contains (type_names t) n
  names_there n c = subst (λ l. Contains l n) (sym (type_names_seen k)) (name_back s k h n c)

  names_from : (n : Name) → Contains (type_names t) n → Contains (type_names s) n
  names_from n c = name_into s k h n (subst (λ l. Contains l n) (type_names_seen k) c)

  uids_there : (u : Uid) → Contains (action_uids s) u → Contains (action_uids t) u
  uids_there u c = subst (λ l. Contains l u) (sym (action_uids_seen k)) (uid_back s k h u c)

  uids_from : (u : Uid) → Contains (action_uids t) u → Contains (action_uids s) u
  uids_from u c = uid_into s k h u (subst (λ l. Contains l u) (action_uids_seen k) c)

  -- descent
  descends_there : (m n : Name) → Descends s m n → Descends t m n
  descends_there m n c = (descends_above k closed m n).1 (is_above s k h m n (begins_declared s m n c) (d.types m n c) c)

  descends_from : (m n : Name) → Descends t m n → Descends s m n
  descends_from m n c = (above_is s k h m n ((descends_above k closed m n).0 c)).2

  same_descends : (m n : Name) → descends s m n ≡ descends t m n
  same_descends m n =
      let a = descends-Decides s m n in
      let b = descends-Decides t m n in
      one_answer _ _ (λ e. descends_there m n (a.0 e), λ c. a.1 (descends_from m n c)) b

  action_there : (u v : Uid) → ActionDescends s u v → ActionDescends t u v
  action_there u v c = (action_descends_above k closed u v).1 (is_action_above s k h u v (action_begins_declared s u v c) (d.actions u v c) c)

  action_from : (u v : Uid) → ActionDescends t u v → ActionDescends s u v
  action_from u v c = (action_above_is s k h u v ((action_descends_above k closed u v).0 c)).2

  same_action_descends : (u v : Uid) → action_descends s u v ≡ action_descends t u v
  same_action_descends u v =
      let a = action_descends-Decides s u v in
      let b = action_descends-Decides t u v in
      one_answer _ _ (λ e. action_there u v (a.0 e), λ c. a.1 (action_from u v c)) b

  type_there : (m n : Name) → TypeDescends s m n → TypeDescends t m n
  type_there m n c =
      ⊎_elim (λ r. inl (descends_there m n r))
      (λ r. let v = r.3 in inr (r.0, uids_there r.0 r.1, r.2, (v.0, (uids_there v.0 v.1.0, action_there r.0 v.0 v.1.1), v.2))) c

  type_from : (m n : Name) → TypeDescends t m n → TypeDescends s m n
  type_from m n c =
      ⊎_elim (λ r. inl (descends_from m n r))
      (λ r. let v = r.3 in inr (r.0, uids_from r.0 r.1, r.2, (v.0, (uids_from v.0 v.1.0, action_from r.0 v.0 v.1.1), v.2))) c

  same_type_descends : (m n : Name) → type_descends s m n ≡ type_descends t m n
  same_type_descends m n =
      let a = type_descends-Decides s m n in
      let b = type_descends-Decides t m n in
      one_answer _ _ (λ e. type_there m n (a.0 e), λ c. a.1 (type_from m n c)) b

  -- what is told of the kind of an entity type
  module _ {C : Type 0} (g : EntityKind → C) (none : C) (same : (j i : EntityKind) → IsSameKind j i → g j ≡ g i) where
    of_kept : (n : Name) (o : Option KeptType) → kept_type k n ≡ o → option_map_or (λ (e : EntityType). g e.kind) (type_named s n) none ≡ option_map_or (λ (t : KeptType). g t.kind) o none
    of_kept n None e = ap (λ o. option_map_or (λ (e : EntityType). g e.kind) o none) (none_there (type_named s n) (ap is_some (sym e) ∙ declared s k h n))
    of_kept n (Some y) e = let r = found s k h n y e in ap (λ o. option_map_or (λ (e : EntityType). g e.kind) o none) r.1 ∙ sym (same y.kind r.0.kind r.2.kind)

    same_by_kind : (n : Name) → option_map_or (λ (e : EntityType). g e.kind) (type_named s n) none ≡ option_map_or (λ (e : EntityType). g e.kind) (type_named t n) none
    same_by_kind n = of_kept n (kept_type k n) refl ∙ sym (by_kind g none k n)

  attributes_alike : (a : Text) (n : Name) → declared_of s a n ≡ declared_of t a n
  attributes_alike a n =
      then_there (λ (e : EntityType). attribute_named a (attributes_at (of_kind e.kind))) (type_named s n)
      ∙ same_by_kind (λ j. attribute_named a (attributes_at (of_kind j))) None (λ j i q. ap (attribute_named a) (same_attributes j i q)) n
      ∙ sym (then_there (λ (e : EntityType). attribute_named a (attributes_at (of_kind e.kind))) (type_named t n))

  tags_alike : (n : Name) → tags_of s n ≡ tags_of t n
  tags_alike n =
      then_there (λ (e : EntityType). tags_at (of_kind e.kind)) (type_named s n)
      ∙ same_by_kind (λ j. tags_at (of_kind j)) None same_tags n
      ∙ sym (then_there (λ (e : EntityType). tags_at (of_kind e.kind)) (type_named t n))

  members_alike : (u : Uid) → is_no_unknown_member s u ≡ is_no_unknown_member t u
  members_alike u = same_by_kind (λ j. has_id j u.id) true (same_ids u.id) u.kind

  action_types_alike : (n : Name) → is_action_type s n ≡ is_action_type t n
  action_types_alike n = any_alike (λ (u : Uid). name_eq n u.kind) (action_uids s) (action_uids t) uids_there uids_from

  -- environments
  environment_same : (a : KeptAction) (b : Action) → IsSameAction a b → (p r : Name) → environment_at b p r ≡ environment_at (action_seen k a) p r
  environment_same a b q p r = λ i. record {
    principal = p;
    action = sym q.uid i;
    resource = r;
    context = sym (ap context_of q.context) i;
    principal_slot = None;
    resource_slot = None;
  }

  product_there : (e : Environment) → IsProduct s e → IsProduct t e
  product_there e c =
      let a = h.all_actions c.0 c.1 in
      let q = a.2 in (
        action_seen k a.0,
        map_has (action_seen k) k.actions a.0 a.1,
        (c.2.0, (q.principals c.2.0).1 c.2.1, (c.2.2.0, (q.resources c.2.2.0).1 c.2.2.1, c.2.2.2 ∙ environment_same a.0 c.0 q c.2.0 c.2.2.0)),
      )

  product_from : (e : Environment) → IsProduct t e → IsProduct s e
  product_from e c =
      let a = map_from (action_seen k) k.actions c.0 c.1 in
      let b = h.actions a.0 a.1 in
      let q = b.2 in
      let p = c.2.0 in
      let r = c.2.2.0 in
      let ps : Contains a.0.applied.principals p = subst (λ (x : Action). Contains x.principals p) (sym a.2) c.2.1 in
      let rs : Contains a.0.applied.resources r = subst (λ (x : Action). Contains x.resources r) (sym a.2) c.2.2.1 in
      (b.0, b.1, (p, (q.principals p).0 ps, (r, (q.resources r).0 rs, c.2.2.2 ∙ sym (ap (λ (x : Action). environment_at x p r) a.2) ∙ sym (environment_same a.0 b.0 q p r))))

  environments_alike : (e : Environment) → Contains (environments s) e ↔ Contains (environments t) e
  environments_alike e = (
    λ c. (products t e).1 (product_there e ((products s e).0 c)),
    λ c. (products s e).1 (product_from e ((products t e).0 c)),
  )

  -- types for slots
  abbrev is_other_above : Schema → Name → Name → Bool
  is_other_above r n m = descends r n m && not (name_eq m n)

  same_other : (n m : Name) → is_other_above s n m ≡ is_other_above t n m
  same_other n m = ap (λ b. b && not (name_eq m n)) (same_descends n m)

  above_alike : (n m : Name) → Contains (types_above s n) m ↔ Contains (types_above t n) m
  above_alike n m = (
    λ c. let r = filter_only (is_other_above s n) (type_names s) m c in filter_has (is_other_above t n) (type_names t) m (names_there m r.0) (sym (same_other n m) ∙ r.1),
    λ c. let r = filter_only (is_other_above t n) (type_names t) m c in filter_has (is_other_above s n) (type_names s) m (names_from m r.0) (same_other n m ∙ r.1),
  )

  pub seen_alike : AnswersAlike s t
  seen_alike = record {
    types = types_alike;
    actions = actions_alike;
    type_descent = same_type_descends;
    action_descent = same_action_descends;
    attributes = attributes_alike;
    tags = tags_alike;
    action_types = action_types_alike;
    members = members_alike;
    environments = environments_alike;
    above = above_alike;
  }
