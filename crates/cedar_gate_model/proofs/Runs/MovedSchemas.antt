-- By schemas that are the same in another order the same conforms; and stores whose entities differ at most in the order of their ancestors
-- have the same slice.
use Rattle.std.proofs.Common.{◌≡◌, ◌∙◌, ◌&&◌, ◌||◌, not, cond, ℕ, zero, suc, List, ◌++◌, Bool, inl, inr, ⊎_elim, refl, sym, ap, subst}
use Rattle.std.specs.Prelude.{Contains}
use Rattle.std.specs.List.{list_any}
use Rattle.std.specs.Option.{option_map_or}
use Rattle.cedar_expr_model.specs.Name.{Name}
use Rattle.cedar_expr_model.specs.Uid.{Uid, uid_eq}
use Rattle.cedar_expr_model.specs.Value.{V}
use Rattle.cedar_store_model.specs.Laws.{with_store}
use Rattle.cedar_store_model.specs.Store.{OpenRequest}
use Rattle.cedar_store_model.specs.World.{World, Entity, Found}
use Rattle.cedar_schema_model.specs.Conforming.{ConformFault, undeclared, not_listed, no_member, ancestor, context_value, Place, among_actions, of_kind, nowhere, place_of, is_no_member, may_descend, lacks_ancestor, entity_fault_at, has_entity_fault, EntityConforms, where_known, is_not_listed, has_request_fault, RequestConforms}
use Rattle.cedar_schema_model.specs.Descent.{descends, action_descends, is_action_ancestor, action_uids}
use Rattle.cedar_schema_model.specs.HasType.{has_type}
use Rattle.cedar_schema_model.specs.Schema.{Schema, enumerated}
use Rattle.cedar_schema_model.specs.Types.{record_type, is_closed}
use Rattle.cedar_schema_model.proofs.Decls.Descent.{descends-Decides}
use Rattle.cedar_typechecker_model.proofs.Moved.Schemas.{IsMoved, moved_back, same_test, any_moved, actions_into, descends_into, same_declares_type, same_declares_action, same_action_descends}
use Rattle.cedar_typechecker_model.specs.Slice.{mentioned_by_parts, mentioned_by_found, IsNear}
use Rattle.cedar_gate_model.proofs.Runs.Ancestors.{FoundAlike, by_found_alike}

module _ (s t : Schema) (m : IsMoved s t) where
  abbrev any_action : (p : Uid → Bool) → list_any p (action_uids s) ≡ list_any p (action_uids t)
  any_action p = any_moved p (action_uids s) (action_uids t) (actions_into s t m) (actions_into t s (moved_back s t m))

  same_place : (u : Uid) → place_of s u ≡ place_of t u
  same_place u = λ i. cond (same_declares_action s t m u i) among_actions (option_map_or (λ x. of_kind x.kind) (m.found_type u.kind i) nowhere)

  -- entities
  same_descends : (a b : Name) → descends s a b ≡ descends t a b
  same_descends a b = same_test (descends s a b) (descends t a b) (descends-Decides s a b) (descends-Decides t a b) (descends_into s t m a b) (descends_into t s (moved_back s t m) a b)

  same_is_ancestor : (u v : Uid) → is_action_ancestor s u v ≡ is_action_ancestor t u v
  same_is_ancestor u v = λ i. any_action (uid_eq v) i && same_action_descends s t m u v i

  same_may_descend : (u : Uid) (p : Place) (v : Uid) → may_descend s u p v ≡ may_descend t u p v
  same_may_descend u among_actions v = same_is_ancestor u v
  same_may_descend u (of_kind (enumerated ids)) v = refl
  same_may_descend u p v = same_descends u.kind v.kind

  same_lacks : (u : Uid) (p : Place) (vs : List Uid) → lacks_ancestor s u p vs ≡ lacks_ancestor t u p vs
  same_lacks u among_actions vs =
      (λ i. list_any (λ v. same_action_descends s t m u v i && not (list_any (uid_eq v) vs)) (action_uids s)) ∙ any_action (λ v. action_descends t u v && not (list_any (uid_eq v) vs))
  same_lacks u p vs = refl

  same_fault_at : (u : Uid) (e : Entity V) (p : Place) (f : ConformFault) → entity_fault_at s u e p f ≡ entity_fault_at t u e p f
  same_fault_at u e p undeclared = λ i. not (same_declares_action s t m u i || same_declares_type s t m u.kind i)
  same_fault_at u e p ancestor = λ i. list_any (λ v. not (same_may_descend u p v i)) e.ancestors || same_lacks u p e.ancestors i
  same_fault_at u e p f = refl

  same_entity_fault : (u : Uid) (e : Entity V) (f : ConformFault) → has_entity_fault s u e f ≡ has_entity_fault t u e f
  same_entity_fault u e f = same_fault_at u e (place_of s u) f ∙ ap (λ p. entity_fault_at t u e p f) (same_place u)

  pub entities_conform : (u : Uid) (e : Entity V) → EntityConforms s u e → EntityConforms t u e
  entities_conform u e h f = sym (same_entity_fault u e f) ∙ h f

  -- requests
  same_request_fault : (r : OpenRequest) (f : ConformFault) → has_request_fault s r f ≡ has_request_fault t r f
  same_request_fault r undeclared = λ i. where_known r.action (λ u. not (same_declares_action s t m u i))
  same_request_fault r not_listed = λ i. where_known r.action (λ u. where_known (m.found_action u i) (λ a. is_not_listed a.principals r.principal || is_not_listed a.resources r.resource))
  same_request_fault r no_member = λ i. where_known r.principal (λ u. is_no_member (same_place u i) u.id) || where_known r.resource (λ u. is_no_member (same_place u i) u.id)
  same_request_fault r context_value = λ i. where_known r.action (λ u. where_known (m.found_action u i) (λ a. where_known r.context (λ v. not (has_type v (record_type a.context is_closed)))))
  same_request_fault r f = refl

  pub requests_conform : (r : OpenRequest) → RequestConforms s r → RequestConforms t r
  requests_conform r h f = sym (same_request_fault r f) ∙ h f

-- slices
same_mentioned : (f g : Found V) → FoundAlike f g → mentioned_by_found f ≡ mentioned_by_found g
same_mentioned f g h = by_found_alike f g h mentioned_by_found (λ e d k. λ i. mentioned_by_parts (k.attributes i) ++ mentioned_by_parts (k.tags i))

pub near_alike : (w : World) (store : Uid → Found V) → ((u : Uid) → FoundAlike (store u) (w.store u)) → (n : ℕ) (u : Uid) → IsNear n (with_store w store) u → IsNear n w u
near_alike w store alike zero u k = k
near_alike w store alike (suc n) u k =
    ⊎_elim (λ a. inl a) (λ a. inr (a.0, near_alike w store alike n a.0 a.1, subst (λ us. Contains us u) (same_mentioned (store a.0) (w.store a.0) (alike a.0)) a.2)) k
