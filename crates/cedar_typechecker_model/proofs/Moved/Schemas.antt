-- Schemas with the same types and actions in another order answer alike.
use Rattle.std.proofs.Common.{◌≡◌, Bool, true, false, ◌||◌, not, List, Option, Some, None, is_some, refl, sym, ap, inl, inr, ⊎_elim}
use Rattle.std.specs.Prelude.{Contains, option_and_then}
use Rattle.std.specs.Bool.{Decides}
use Rattle.std.specs.List.{list_any}
use Rattle.std.specs.List.Sorted.{IsPermutation}
use Rattle.std.specs.Option.{option_map_or}
use Rattle.std.proofs.lemmas.List.Sorted.{IsPermutation-sym, IsPermutation-map, Contains-permutation}
use Rattle.cedar_expr_model.specs.Name.{Text, Name, name_eq}
use Rattle.cedar_expr_model.specs.Uid.{Uid}
use Rattle.cedar_expr_model.specs.Lists.{all_given}
use Rattle.cedar_expr_model.proofs.Lists.{any_from, any_has}
use Rattle.cedar_schema_model.specs.Types.{Ty, entity_types, record_type, is_open, is_closed, attribute_named}
use Rattle.cedar_schema_model.specs.Schema.{EntityType, Action, Schema, type_named, action_with, declares_type, declares_action}
use Rattle.cedar_schema_model.specs.Descent.{type_names, action_uids, HasParent, HasActionParent, Descends, ActionDescends, action_descends, IsActionAncestor, type_descends}
use Rattle.cedar_schema_model.specs.DeclLaws.{ActionTypeDescends, TypeDescends}
use Rattle.cedar_schema_model.specs.Lookup.{declared_of, declared_by_all, lookup_attribute, may_have_attribute}
use Rattle.cedar_schema_model.proofs.Decls.Descent.{action_descends-Decides, type_descends-Decides}
use Rattle.cedar_schema_model.proofs.Decls.Reordered.{reaches_along}
use Rattle.cedar_typechecker_model.specs.Rules.{may_be_in, tags_of}
use Rattle.cedar_typechecker_model.specs.ScopeRules.{is_action_type, is_known_type, is_no_unknown_action, has_id, is_no_unknown_member}
use Rattle.cedar_schema_model.specs.Conforming.{of_kind, tags_at, attributes_at}

-- Two schemas have the same types and actions, in another order, and find each alike.
pub record IsMoved (s t : Schema) : Type 0 where
  pub types : IsPermutation s.types t.types
  pub actions : IsPermutation s.actions t.actions
  pub found_type : (n : Name) → type_named s n ≡ type_named t n
  pub found_action : (u : Uid) → action_with s u ≡ action_with t u

pub moved_back : (s t : Schema) → IsMoved s t → IsMoved t s
moved_back s t m = record {
  types = IsPermutation-sym s.types t.types m.types;
  actions = IsPermutation-sym s.actions t.actions m.actions;
  found_type = λ n. sym (m.found_type n);
  found_action = λ u. sym (m.found_action u);
}

-- tests that decide the same
pub same_test : {P Q : Type 0} (a b : Bool) → Decides a P → Decides b Q → (P → Q) → (Q → P) → a ≡ b
same_test true b d e f g = sym (e.1 (f (d.0 refl)))
same_test false true d e f g = d.1 (g (e.0 refl))
same_test false false d e f g = refl

any_within : {X : Type 0} (p : X → Bool) (xs ys : List X) → ((x : X) → Contains xs x → Contains ys x) → list_any p xs ≡ true → list_any p ys ≡ true
any_within p xs ys h e = let r = any_from p xs e in any_has p ys r.0 (h r.0 r.1) r.2

pub any_moved : {X : Type 0} (p : X → Bool) (xs ys : List X) → ((x : X) → Contains xs x → Contains ys x) → ((x : X) → Contains ys x → Contains xs x) → list_any p xs ≡ list_any p ys
any_moved p xs ys f g = same_test (list_any p xs) (list_any p ys) (λ h. h, λ h. h) (λ h. h, λ h. h) (any_within p xs ys f) (any_within p ys xs g)

-- what leads from one to the other, in one direction
module _ (s t : Schema) (m : IsMoved s t) where
  types_into : (n : Name) → Contains (type_names s) n → Contains (type_names t) n
  types_into n k = Contains-permutation (type_names s) (type_names t) n (IsPermutation-map (λ (x : EntityType). x.name) s.types t.types m.types) k

  pub actions_into : (u : Uid) → Contains (action_uids s) u → Contains (action_uids t) u
  actions_into u k = Contains-permutation (action_uids s) (action_uids t) u (IsPermutation-map (λ (x : Action). x.uid) s.actions t.actions m.actions) k

  pub descends_into : (a b : Name) → Descends s a b → Descends t a b
  descends_into a b h = reaches_along (HasParent s) (HasParent t) (λ x y k. (k.0, Contains-permutation s.types t.types k.0 m.types k.1, k.2, k.3)) a b h

  action_descends_into : (u v : Uid) → ActionDescends s u v → ActionDescends t u v
  action_descends_into u v h = reaches_along (HasActionParent s) (HasActionParent t) (λ x y k. (k.0, Contains-permutation s.actions t.actions k.0 m.actions k.1, k.2, k.3)) u v h

  pub ancestors_into : (u v : Uid) → IsActionAncestor s u v → IsActionAncestor t u v
  ancestors_into u v h = (actions_into v h.0, action_descends_into u v h.1)

  action_types_into : (a b : Name) → ActionTypeDescends s a b → ActionTypeDescends t a b
  action_types_into a b h = (h.0, actions_into h.0 h.1, h.2, ((h.3).0, ancestors_into h.0 (h.3).0 (h.3).1, (h.3).2))

  type_descends_into : (a b : Name) → TypeDescends s a b → TypeDescends t a b
  type_descends_into a b h = ⊎_elim (λ k. inl (descends_into a b k)) (λ k. inr (action_types_into a b k)) h

  pub names_into : (n : Name) → Contains (type_names s) n → Contains (type_names t) n
  names_into = types_into

module _ (s t : Schema) (m : IsMoved s t) where
  abbrev back : IsMoved t s
  back = moved_back s t m

  pub same_declares_type : (n : Name) → declares_type s n ≡ declares_type t n
  same_declares_type n = ap is_some (m.found_type n)

  pub same_declares_action : (u : Uid) → declares_action s u ≡ declares_action t u
  same_declares_action u = ap is_some (m.found_action u)

  pub same_action_descends : (u v : Uid) → action_descends s u v ≡ action_descends t u v
  same_action_descends u v = same_test (action_descends s u v) (action_descends t u v) (action_descends-Decides s u v) (action_descends-Decides t u v) (action_descends_into s t m u v) (action_descends_into t s back u v)

  same_type_descends : (a b : Name) → type_descends s a b ≡ type_descends t a b
  same_type_descends a b = same_test (type_descends s a b) (type_descends t a b) (type_descends-Decides s a b) (type_descends-Decides t a b) (type_descends_into s t m a b) (type_descends_into t s back a b)

  pub same_may_be_in : (k l : Option (List Name)) → may_be_in s k l ≡ may_be_in t k l
  same_may_be_in (Some ms) (Some ns) = λ i. list_any (λ a. list_any (λ b. name_eq a b || same_type_descends a b i) ns) ms
  same_may_be_in (Some ms) None = refl
  same_may_be_in None l = refl

  -- attributes and tags
  same_declared : (a : Text) (n : Name) → declared_of s a n ≡ declared_of t a n
  same_declared a n = λ i. option_and_then (λ e. attribute_named a (attributes_at (of_kind e.kind))) (m.found_type n i)

  pub same_lookup : (y : Ty) (a : Text) → lookup_attribute s y a ≡ lookup_attribute t y a
  same_lookup (entity_types ns) a = λ i. option_and_then declared_by_all (all_given (λ n. same_declared a n i) ns)
  same_lookup y a = refl

  pub same_may_have : (y : Ty) (a : Text) → may_have_attribute s y a ≡ may_have_attribute t y a
  same_may_have (entity_types ns) a = λ i. list_any (λ n. is_some (same_declared a n i)) ns
  same_may_have (record_type as_ is_open) a = refl
  same_may_have (record_type as_ is_closed) a = refl
  same_may_have y a = refl

  pub same_tags : (n : Name) → tags_of s n ≡ tags_of t n
  same_tags n = λ i. option_and_then (λ e. tags_at (of_kind e.kind)) (m.found_type n i)

  -- scope rules
  pub same_action_type : (n : Name) → is_action_type s n ≡ is_action_type t n
  same_action_type n = any_moved (λ (u : Uid). name_eq n u.kind) (action_uids s) (action_uids t) (actions_into s t m) (actions_into t s back)

  pub same_known_type : (n : Name) → is_known_type s n ≡ is_known_type t n
  same_known_type n = λ i. same_declares_type n i || same_action_type n i

  pub same_no_unknown_action : (u : Uid) → is_no_unknown_action s u ≡ is_no_unknown_action t u
  same_no_unknown_action u = λ i. not (same_action_type u.kind i) || same_declares_action u i

  pub same_no_unknown_member : (u : Uid) → is_no_unknown_member s u ≡ is_no_unknown_member t u
  same_no_unknown_member u = λ i. option_map_or (λ e. has_id e.kind u.id) (m.found_type u.kind i) true
