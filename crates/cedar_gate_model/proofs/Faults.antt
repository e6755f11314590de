-- By what is kept of a schema entities and requests have the same faults.
use Rattle.std.proofs.Common.{◌≡◌, ◌∙◌, List, Bool, true, false, cond, ◌||◌, not, Option, Some, None, is_some, refl, sym, ap}
use Rattle.std.specs.Prelude.{Contains, is_none}
use Rattle.std.specs.List.{list_any}
use Rattle.std.specs.Option.{option_map_or}
use Rattle.std.specs.Str.{bytes_eq}
use Rattle.cedar_expr_model.specs.Name.{Text, Name, name_eq}
use Rattle.cedar_expr_model.specs.Uid.{Uid}
use Rattle.cedar_expr_model.specs.Value.{V}
use Rattle.cedar_store_model.specs.Store.{OpenRequest}
use Rattle.cedar_store_model.specs.World.{Entity}
use Rattle.cedar_schema_model.specs.Conforming.{ConformFault, undeclared, not_listed, no_member, lacks_attribute, undeclared_attribute, attribute_value, tag, ancestor, context_value, open_part, Place, among_actions, of_kind, nowhere, place_of, attributes_at, tags_at, is_no_member, may_descend, lacks_ancestor, entity_fault_at, has_entity_fault, where_known, is_not_listed, has_request_fault}
use Rattle.cedar_schema_model.specs.HasType.{has_type}
use Rattle.cedar_schema_model.specs.Schema.{EntityKind, standard, enumerated, external, EntityType, Action, Schema, type_named, action_with, declares_type, declares_action}
use Rattle.cedar_schema_model.specs.Types.{record_type, is_closed}
use Rattle.cedar_schema_model.specs.Kept.{KeptType, KeptAction, Kept, kept_type, kept_action}
use Rattle.cedar_schema_model.specs.KeptOf.{IsSameKind, IsSameType, IsSameAction, IsKeptOf}
use Rattle.cedar_schema_model.specs.KeptLaws.{TypesAreDeclared, ActionsAreDeclared, TypesAreFound, ActionsAreFound}
use Rattle.cedar_typechecker_model.specs.Alike.{DescendsToDeclared}
use Rattle.cedar_gate_model.specs.Alike.{ConformsAlike}
use Rattle.cedar_gate_model.specs.Asked.{kept_place, is_nowhere, lacks_required, has_undeclared, has_wrong_value, has_wrong_tag, may_be_below, lacks_above, kept_fault_at, kept_entity_fault, is_unlisted, has_wrong_context, is_no_kept_member, kept_request_fault}
use Rattle.cedar_gate_model.proofs.Looked.{any_alike, none_there}
use Rattle.cedar_gate_model.proofs.Descent.{type_below_alike, ancestor_alike, lacking_alike, ancestors_alike}

-- Two places are equal, but for the order of the members of an enumeration.
abbrev SamePlace : Place → Place → Type 0
SamePlace among_actions q = q ≡ among_actions
SamePlace nowhere q = q ≡ nowhere
SamePlace (of_kind j) q = (i : EntityKind) × (q ≡ of_kind i) × IsSameKind j i

-- what kinds and places tell that are the same
kind_attributes : (j i : EntityKind) → IsSameKind j i → attributes_at (of_kind j) ≡ attributes_at (of_kind i)
kind_attributes (standard as_ t) i h = ap (λ y. attributes_at (of_kind y)) (sym h)
kind_attributes (enumerated ids) i h = ap (λ y. attributes_at (of_kind y)) (sym h.1)
kind_attributes external i h = ap (λ y. attributes_at (of_kind y)) (sym h)

kind_tags : (j i : EntityKind) → IsSameKind j i → tags_at (of_kind j) ≡ tags_at (of_kind i)
kind_tags (standard as_ t) i h = ap (λ y. tags_at (of_kind y)) (sym h)
kind_tags (enumerated ids) i h = ap (λ y. tags_at (of_kind y)) (sym h.1)
kind_tags external i h = ap (λ y. tags_at (of_kind y)) (sym h)

kind_members : (id : Text) (j i : EntityKind) → IsSameKind j i → is_no_member (of_kind j) id ≡ is_no_member (of_kind i) id
kind_members id (standard as_ t) i h = ap (λ y. is_no_member (of_kind y) id) (sym h)
kind_members id (enumerated ids) i h = ap not (any_alike (bytes_eq id) ids h.0 (λ x. (h.2 x).0) (λ x. (h.2 x).1)) ∙ ap (λ y. is_no_member (of_kind y) id) (sym h.1)
kind_members id external i h = ap (λ y. is_no_member (of_kind y) id) (sym h)

same_attributes : (p q : Place) → SamePlace p q → attributes_at p ≡ attributes_at q
same_attributes among_actions q h = ap attributes_at (sym h)
same_attributes nowhere q h = ap attributes_at (sym h)
same_attributes (of_kind j) q h = kind_attributes j h.0 h.2 ∙ ap attributes_at (sym h.1)

same_tags : (p q : Place) → SamePlace p q → tags_at p ≡ tags_at q
same_tags among_actions q h = ap tags_at (sym h)
same_tags nowhere q h = ap tags_at (sym h)
same_tags (of_kind j) q h = kind_tags j h.0 h.2 ∙ ap tags_at (sym h.1)

same_members : (id : Text) (p q : Place) → SamePlace p q → is_no_member p id ≡ is_no_member q id
same_members id among_actions q h = ap (λ y. is_no_member y id) (sym h)
same_members id nowhere q h = ap (λ y. is_no_member y id) (sym h)
same_members id (of_kind j) q h = kind_members id j h.0 h.2 ∙ ap (λ y. is_no_member y id) (sym h.1)

-- the place of what is found
abbrev SameFound : Option KeptType → Option EntityType → Type 0
SameFound (Some t) x = (e : EntityType) × (x ≡ Some e) × IsSameType t e
SameFound None x = x ≡ None

abbrev kind_place : Option EntityType → Place
kind_place x = option_map_or (λ e. of_kind e.kind) x nowhere

abbrev kept_kind_place : Option KeptType → Place
kept_kind_place o = option_map_or (λ t. of_kind t.kind) o nowhere

same_place_of : (b : Bool) (o : Option KeptType) (x : Option EntityType) → SameFound o x → SamePlace (cond b among_actions (kept_kind_place o)) (cond b among_actions (kind_place x))
same_place_of true o x h = refl
same_place_of false None x h = ap kind_place h
same_place_of false (Some t) x h = (h.0.kind, ap kind_place h.1, h.2.kind)

where_undeclared : (b : Bool) (o : Option KeptType) → is_nowhere (cond b among_actions (kept_kind_place o)) ≡ not (b || is_some o)
where_undeclared true o = refl
where_undeclared false None = refl
where_undeclared false (Some t) = refl

is_none_is : {A : Type 0} (o : Option A) → is_none o ≡ not (is_some o)
is_none_is None = refl
is_none_is (Some a) = refl

same_listed : (ns ms : List Name) (o : Option Uid) → ((n : Name) → Contains ns n → Contains ms n) → ((n : Name) → Contains ms n → Contains ns n) → is_not_listed ns o ≡ is_not_listed ms o
same_listed ns ms None f g = refl
same_listed ns ms (Some u) f g = ap not (any_alike (name_eq u.kind) ns ms f g)

module _ (declared : TypesAreDeclared) (actions_declared : ActionsAreDeclared) (found : TypesAreFound) (actions_found : ActionsAreFound) (s : Schema) (k : Kept) (h : IsKeptOf s k) (d : DescendsToDeclared s) where
  same_found : (n : Name) → SameFound (kept_type k n) (type_named s n)
  same_found n = go (kept_type k n) refl
    where
      go : (o : Option KeptType) → kept_type k n ≡ o → SameFound o (type_named s n)
      go None e = none_there (type_named s n) (ap is_some (sym e) ∙ declared s k h n)
      go (Some t) e = found s k h n t e

  same_place : (u : Uid) → SamePlace (kept_place k u) (place_of s u)
  same_place u = go (is_some (kept_action k u)) (declares_action s u) (actions_declared s k h u)
    where
      go : (b c : Bool) → b ≡ c → SamePlace (cond b among_actions (kept_kind_place (kept_type k u.kind))) (cond c among_actions (kind_place (type_named s u.kind)))
      go b true e = same (sym e)
        where
          same : true ≡ b → SamePlace (cond b among_actions (kept_kind_place (kept_type k u.kind))) among_actions
          same q = elim b as (λ b. true ≡ b → SamePlace (cond b among_actions (kept_kind_place (kept_type k u.kind))) among_actions) [ true ↦ λ q. refl | false ↦ λ q. absurd (cc) ] q
      go b false e = other (sym e)
        where
          other : false ≡ b → SamePlace (cond b among_actions (kept_kind_place (kept_type k u.kind))) (kind_place (type_named s u.kind))
          other q = elim b as (λ b. false ≡ b → SamePlace (cond b among_actions (kept_kind_place (kept_type k u.kind))) (kind_place (type_named s u.kind))) [ true ↦ λ q. absurd (cc) | false ↦ λ q. same_place_of false (kept_type k u.kind) (type_named s u.kind) (same_found u.kind) ] q

  -- ancestors
  below_alike : (u : Uid) (p q : Place) → SamePlace p q → (v : Uid) → may_descend s u q v ≡ may_be_below k u p v
  below_alike u among_actions q e v = ap (λ y. may_descend s u y v) e ∙ ancestor_alike declared actions_declared s k h u v
  below_alike u nowhere q e v = ap (λ y. may_descend s u y v) e ∙ type_below_alike declared actions_declared s k h d u.kind v.kind
  below_alike u (of_kind j) q e v = ap (λ y. may_descend s u y v) e.1 ∙ of_kinds j e.0 e.2
    where
      of_kinds : (j i : EntityKind) → IsSameKind j i → may_descend s u (of_kind i) v ≡ may_be_below k u (of_kind j) v
      of_kinds (standard as_ t) i x = ap (λ y. may_descend s u (of_kind y) v) x ∙ type_below_alike declared actions_declared s k h d u.kind v.kind
      of_kinds (enumerated ids) i x = ap (λ y. may_descend s u (of_kind y) v) x.1
      of_kinds external i x = ap (λ y. may_descend s u (of_kind y) v) x ∙ type_below_alike declared actions_declared s k h d u.kind v.kind

  lacks_alike : (u : Uid) (p q : Place) → SamePlace p q → (vs : List Uid) → lacks_ancestor s u q vs ≡ lacks_above k u p vs
  lacks_alike u among_actions q e vs = ap (λ y. lacks_ancestor s u y vs) e ∙ lacking_alike declared actions_declared s k h u vs
  lacks_alike u nowhere q e vs = ap (λ y. lacks_ancestor s u y vs) e
  lacks_alike u (of_kind j) q e vs = ap (λ y. lacks_ancestor s u y vs) e.1

  -- entities
  fault_alike : (u : Uid) (e : Entity V) (p q : Place) → SamePlace p q → not (declares_action s u || declares_type s u.kind) ≡ is_nowhere p → (f : ConformFault) → entity_fault_at s u e q f ≡ kept_fault_at k u e p f
  fault_alike u e p q x y undeclared = y
  fault_alike u e p q x y not_listed = refl
  fault_alike u e p q x y no_member = sym (same_members u.id p q x)
  fault_alike u e p q x y lacks_attribute = sym (ap (λ as_. lacks_required as_ e.attributes) (same_attributes p q x))
  fault_alike u e p q x y undeclared_attribute = sym (ap (λ as_. has_undeclared as_ e.attributes) (same_attributes p q x))
  fault_alike u e p q x y attribute_value = sym (ap (λ as_. has_wrong_value as_ e.attributes) (same_attributes p q x))
  fault_alike u e p q x y tag = sym (ap (λ t. has_wrong_tag t e.tags) (same_tags p q x))
  fault_alike u e p q x y ancestor = λ i. list_any (λ v. not (below_alike u p q x v i)) e.ancestors || lacks_alike u p q x e.ancestors i
  fault_alike u e p q x y context_value = refl
  fault_alike u e p q x y open_part = refl

  entities_alike : (u : Uid) (e : Entity V) (f : ConformFault) → has_entity_fault s u e f ≡ kept_entity_fault k u e f
  entities_alike u e f =
      fault_alike u e (kept_place k u) (place_of s u) (same_place u)
      (sym (where_undeclared (is_some (kept_action k u)) (kept_type k u.kind) ∙ (λ i. not (actions_declared s k h u i || declared s k h u.kind i)))) f

  -- requests
  action_test_alike : (test : Action → Bool) (kept_test : KeptAction → Bool) → ((a : KeptAction) (b : Action) → IsSameAction a b → kept_test a ≡ test b) → (u : Uid) → where_known (action_with s u) test ≡ where_known (kept_action k u) kept_test
  action_test_alike test kept_test each u = go (kept_action k u) refl
    where
      go : (o : Option KeptAction) → kept_action k u ≡ o → where_known (action_with s u) test ≡ where_known (kept_action k u) kept_test
      go None e = ap (λ o. where_known o test) (none_there (action_with s u) (ap is_some (sym e) ∙ actions_declared s k h u)) ∙ sym (ap (λ o. where_known o kept_test) e)
      go (Some a) e = let r = actions_found s k h u a e in ap (λ o. where_known o test) r.1 ∙ sym (each a r.0 r.2) ∙ sym (ap (λ o. where_known o kept_test) e)

  unlisted_alike : (r : OpenRequest) (a : KeptAction) (b : Action) → IsSameAction a b → is_unlisted r a ≡ (is_not_listed b.principals r.principal || is_not_listed b.resources r.resource)
  unlisted_alike r a b x = λ i.
      same_listed a.applied.principals b.principals r.principal (λ n. (x.principals n).0) (λ n. (x.principals n).1) i
      || same_listed a.applied.resources b.resources r.resource (λ n. (x.resources n).0) (λ n. (x.resources n).1) i

  context_alike : (r : OpenRequest) (a : KeptAction) (b : Action) → IsSameAction a b → has_wrong_context r a ≡ where_known r.context (λ v. not (has_type v (record_type b.context is_closed)))
  context_alike r a b x = ap (λ t. where_known r.context (λ v. not (has_type v t))) x.context

  members_alike : (o : Option Uid) → where_known o (λ u. is_no_member (place_of s u) u.id) ≡ is_no_kept_member k o
  members_alike o = λ i. where_known o (λ u. sym (same_members u.id (kept_place k u) (place_of s u) (same_place u)) i)

  requests_alike : (r : OpenRequest) (f : ConformFault) → has_request_fault s r f ≡ kept_request_fault k r f
  requests_alike r undeclared = λ i. where_known r.action (λ u. (ap not (sym (actions_declared s k h u)) ∙ sym (is_none_is (kept_action k u))) i)
  requests_alike r not_listed = λ i. where_known r.action (λ u. action_test_alike (λ b. is_not_listed b.principals r.principal || is_not_listed b.resources r.resource) (is_unlisted r) (unlisted_alike r) u i)
  requests_alike r no_member = λ i. members_alike r.principal i || members_alike r.resource i
  requests_alike r context_value = λ i. where_known r.action (λ u. action_test_alike (λ b. where_known r.context (λ v. not (has_type v (record_type b.context is_closed)))) (has_wrong_context r) (context_alike r) u i)
  requests_alike r open_part = refl
  requests_alike r lacks_attribute = refl
  requests_alike r undeclared_attribute = refl
  requests_alike r attribute_value = refl
  requests_alike r tag = refl
  requests_alike r ancestor = refl

  pub conforms_alike : ConformsAlike s k
  conforms_alike = record {
    entities = entities_alike;
    requests = requests_alike;
    actions = λ u. sym (actions_declared s k h u);
    ancestors = ancestors_alike declared actions_declared s k h;
  }
