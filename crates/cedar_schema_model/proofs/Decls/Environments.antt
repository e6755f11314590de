-- Environments, and actions as entities.
use Rattle.std.proofs.Common.{◌≡◌, ◌↔◌, List, [], ◌∷◌, Bool, true, false, not, ◌&&◌, map, Option, Some, None, refl, sym, ap, ◌∙◌, subst, inl, inr, ⊎_elim}
use Rattle.std.specs.Prelude.{Contains, is_some, if◌then◌else◌, find}
use Rattle.std.specs.Bool.{Decides}
use Rattle.std.specs.Option.{option_map_or}
use Rattle.cedar_expr_model.specs.Name.{Name, name_eq}
use Rattle.cedar_expr_model.specs.Uid.{Uid, uid_eq}
use Rattle.cedar_expr_model.proofs.Equality.{name_eq-Decides, uid_eq-Decides}
use Rattle.cedar_expr_model.proofs.Lists.{both_hold, hold_both, contains_cases, contains_none, contains_head, contains_tail, filter_has, filter_only, map_has, map_from, flat_has, flat_from}
use Rattle.cedar_expr_model.specs.Value.{V}
use Rattle.cedar_store_model.specs.World.{Entity, Request}
use Rattle.cedar_schema_model.specs.Schema.{Action, Schema, declares_action, type_named}
use Rattle.cedar_schema_model.specs.Descent.{type_names, action_uids, Descends, descends, action_descends, IsActionAncestor}
use Rattle.cedar_schema_model.specs.ActionEntities.{action_ancestors, as_entity, action_entities}
use Rattle.cedar_schema_model.specs.Conforming.{among_actions, of_kind, nowhere, place_of, EntityConforms, ConformFault, undeclared, not_listed, no_member, lacks_attribute, undeclared_attribute, attribute_value, tag, ancestor, context_value, open_part}
use Rattle.cedar_schema_model.proofs.Named.{environments_of, linked}
use Rattle.cedar_schema_model.specs.Environment.{Environment, environment_at, environments, SlotUse, no_slot, equal_slot, in_slot, types_above, slot_types, with_slots, environments_for}
use Rattle.cedar_schema_model.specs.DeclLaws.{EntityFaultAt, IsGoodFor, IsProduct, IsAtOrAbove, TakesSlot, IsLinked, action_entity}
use Rattle.cedar_schema_model.proofs.Decls.Descent.{descends-Decides, action_descends-Decides}
use Rattle.cedar_schema_model.proofs.Decls.Conforming.{where_no_entity_fault}

-- actions
pub ancestors_declared : (s : Schema) (u v : Uid) → Contains (action_ancestors s u) v ↔ IsActionAncestor s u v
ancestors_declared s u v = (
  λ h. let k = filter_only (action_descends s u) (action_uids s) v h in (k.0, (action_descends-Decides s u v).0 k.1),
  λ h. filter_has (action_descends s u) (action_uids s) v h.0 ((action_descends-Decides s u v).1 h.1),
)

-- an action is found where it is one of those declared
found_step : (u : Uid) (a : Action) (b : Bool) (rest : Option Action) (P : Type 0) → uid_eq u a.uid ≡ b → (u ≡ a.uid → P) → (is_some rest ≡ true → P) → is_some (if b then Some a else rest) ≡ true → P
found_step u a true rest P e f g h = f ((uid_eq-Decides u a.uid).0 e)
found_step u a false rest P e f g h = g h

found_uid : (u : Uid) (xs : List Action) → is_some (find (λ (x : Action). uid_eq u x.uid) xs) ≡ true → Contains (map (λ a. a.uid) xs) u
found_uid u [] h = cc
found_uid u (a ∷ xs) h =
    found_step u a (uid_eq u a.uid) (find (λ (x : Action). uid_eq u x.uid) xs) (Contains (map (λ x. x.uid) (a ∷ xs)) u) refl
    (λ e. subst (Contains (map (λ x. x.uid) (a ∷ xs))) (sym e) (contains_head a.uid (map (λ x. x.uid) xs)))
    (λ k. contains_tail a.uid (map (λ x. x.uid) xs) u (found_uid u xs k))
    h

kept_here : (b : Bool) (a : Action) (rest : Option Action) → b ≡ true → is_some (if b then Some a else rest) ≡ true
kept_here true a rest e = refl
kept_here false a rest e = cc

kept_later : (b : Bool) (a : Action) (rest : Option Action) → is_some rest ≡ true → is_some (if b then Some a else rest) ≡ true
kept_later true a rest e = refl
kept_later false a rest e = e

uid_found : (u : Uid) (xs : List Action) → Contains (map (λ a. a.uid) xs) u → is_some (find (λ (x : Action). uid_eq u x.uid) xs) ≡ true
uid_found u [] h = absurd (contains_none u h)
uid_found u (a ∷ xs) h =
    contains_cases (is_some (find (λ (x : Action). uid_eq u x.uid) (a ∷ xs)) ≡ true) a.uid (map (λ x. x.uid) xs) u h
    (λ e. kept_here (uid_eq u a.uid) a (find (λ (x : Action). uid_eq u x.uid) xs) ((uid_eq-Decides u a.uid).1 (sym e)))
    (λ k. kept_later (uid_eq u a.uid) a (find (λ (x : Action). uid_eq u x.uid) xs) (uid_found u xs k))

pub declares_action-Decides : (s : Schema) (u : Uid) → Decides (declares_action s u) (Contains (action_uids s) u)
declares_action-Decides s u = (found_uid u s.actions, uid_found u s.actions)

where_true : (b : Bool) (e : Entity V) → b ≡ true → (if b then Some e else None) ≡ Some e
where_true true e h = refl
where_true false e h = cc

where_some : (b : Bool) (e f : Entity V) → (if b then Some e else None) ≡ Some f → (b ≡ true) × (e ≡ f)
where_some true e f h = (refl, cc)
where_some false e f h = cc

pub entities_are_actions : (s : Schema) (u : Uid) (e : Entity V) → Contains (action_entities s) (u, e) ↔ (action_entity s u ≡ Some e)
entities_are_actions s u e = (
  λ h. let k = map_from (λ v. (v, as_entity s v)) (action_uids s) (u, e) h in
      let same : k.0 ≡ u = ap (λ (p : Uid × Entity V). p.0) k.2 in
      let entity : as_entity s k.0 ≡ e = ap (λ (p : Uid × Entity V). p.1) k.2 in
      let declared : Contains (action_uids s) u = subst (Contains (action_uids s)) same k.1 in
      where_true (declares_action s u) (as_entity s u) ((declares_action-Decides s u).1 declared) ∙ ap Some (ap (as_entity s) (sym same) ∙ entity),
  λ h. let k = where_some (declares_action s u) (as_entity s u) e h in
      subst (λ (f : Entity V). Contains (action_entities s) (u, f)) k.1 (map_has (λ v. (v, as_entity s v)) (action_uids s) u ((declares_action-Decides s u).0 k.0)),
)

-- an action as an entity has no fault
faultless : (s : Schema) (u : Uid) (f : ConformFault) → EntityFaultAt s u (as_entity s u) among_actions f → ⊥
faultless s u undeclared h = cc
faultless s u no_member h = h
faultless s u lacks_attribute h = contains_none h.0 h.1
faultless s u undeclared_attribute h = contains_none h.0 h.1
faultless s u attribute_value h = contains_none h.0 h.1
faultless s u tag h = contains_none h.0 h.1
faultless s u ancestor h = ⊎_elim (λ k. k.2 ((ancestors_declared s u k.0).0 k.1)) (λ k. k.2 ((ancestors_declared s u k.0).1 k.1)) h
faultless s u open_part h = ⊎_elim (λ k. contains_none k.0 k.1) (λ k. contains_none k.0 k.1) h
faultless s u not_listed h = h
faultless s u context_value h = h

pub actions_conform : (s : Schema) (u : Uid) (e : Entity V) → action_entity s u ≡ Some e → EntityConforms s u e
actions_conform s u e h =
    let k = where_some (declares_action s u) (as_entity s u) e h in
    let at : place_of s u ≡ among_actions = ap (λ b. if b then among_actions else option_map_or (λ t. of_kind t.kind) (type_named s u.kind) nowhere) k.0 in
    where_no_entity_fault s u e (λ f x. faultless s u f (subst (λ p. EntityFaultAt s u (as_entity s u) p f) at (subst (λ g. EntityFaultAt s u g (place_of s u) f) (sym k.1) x)))

-- environments
pub products : (s : Schema) (x : Environment) → Contains (environments s) x ↔ IsProduct s x
products s x = (
  λ h. let a = flat_from environments_of s.actions x h in
      let p = flat_from (λ p. map (environment_at a.0 p) a.0.resources) a.0.principals x a.2 in
      let r = map_from (environment_at a.0 p.0) a.0.resources x p.2 in
      (a.0, a.1, (p.0, p.1, (r.0, r.1, sym r.2))),
  λ h. let a = h.0 in
      let p = h.2.0 in
      let r = h.2.2.0 in
      subst (Contains (environments s)) (sym h.2.2.2)
      (flat_has environments_of s.actions a (environment_at a p r) h.1
      (flat_has (λ q. map (environment_at a q) a.resources) a.principals p (environment_at a p r) h.2.1 (map_has (environment_at a p) a.resources r h.2.2.1))),
)

-- the action that is found has that uid, and is one of those declared
abbrev IsDeclaredAs : Uid → List Action → Action → Type 0
IsDeclaredAs u xs a = (a.uid ≡ u) × Contains xs a

found_as_step : (u : Uid) (b : Action) (xs : List Action) (a : Action) (t : Bool) → uid_eq u b.uid ≡ t → (find (λ (x : Action). uid_eq u x.uid) xs ≡ Some a → IsDeclaredAs u xs a) → (if t then Some b else find (λ (x : Action). uid_eq u x.uid) xs) ≡ Some a → IsDeclaredAs u (b ∷ xs) a
found_as_step u b xs a true e rest k =
    let same : b ≡ a = cc in
    subst (IsDeclaredAs u (b ∷ xs)) same (sym ((uid_eq-Decides u b.uid).0 e), contains_head b xs)
found_as_step u b xs a false e rest k = let r = rest k in (r.0, contains_tail b xs a r.1)

pub found_as : (u : Uid) (xs : List Action) (a : Action) → find (λ (x : Action). uid_eq u x.uid) xs ≡ Some a → IsDeclaredAs u xs a
found_as u [] a h = cc
found_as u (b ∷ xs) a h = found_as_step u b xs a (uid_eq u b.uid) refl (found_as u xs a) h

pub has_environment : (s : Schema) (r : Request) (a : Action) → IsGoodFor s r a → (a.uid ≡ r.action) × Contains (environments s) (environment_at a r.principal.kind r.resource.kind)
has_environment s r a g =
    let k = found_as r.action s.actions a g.action in
    (k.0, (products s (environment_at a r.principal.kind r.resource.kind)).1 (a, k.1, (r.principal.kind, g.principal, (r.resource.kind, g.resource, refl))))

-- slots
above : (s : Schema) (n m : Name) → Contains (n ∷ types_above s n) m → IsAtOrAbove s n m
above s n m h =
    contains_cases (IsAtOrAbove s n m) n (types_above s n) m h (λ e. inl (sym e))
    (λ k. let r = filter_only (λ x. descends s n x && not (name_eq x n)) (type_names s) m k in
    let b = both_hold (descends s n m) (not (name_eq m n)) r.1 in
    inr (r.0, (descends-Decides s n m).0 b.0))

not_true : (b : Bool) → b ≡ false → not b ≡ true
not_true true e = cc
not_true false e = refl

descends_above : (s : Schema) (n m : Name) (b : Bool) → name_eq m n ≡ b → Contains (type_names s) m → Descends s n m → Contains (n ∷ types_above s n) m
descends_above s n m true e k d = subst (Contains (n ∷ types_above s n)) (sym ((name_eq-Decides m n).0 e)) (contains_head n (types_above s n))
descends_above s n m false e k d =
    contains_tail n (types_above s n) m (filter_has (λ x. descends s n x && not (name_eq x n)) (type_names s) m k (hold_both (descends s n m) _ ((descends-Decides s n m).1 d) (not_true (name_eq m n) e)))

at_or_above : (s : Schema) (n m : Name) → IsAtOrAbove s n m → Contains (n ∷ types_above s n) m
at_or_above s n m h =
    ⊎_elim
    (λ e. subst (Contains (n ∷ types_above s n)) (sym e) (contains_head n (types_above s n)))
    (λ k. descends_above s n m (name_eq m n) refl k.0 k.1)
    h

one_alone : {A : Type 0} (a b : A) → Contains (a ∷ []) b → b ≡ a
one_alone a b h = contains_cases (b ≡ a) a [] b h (λ e. sym e) (λ k. absurd (contains_none b k))

takes : (s : Schema) (p : SlotUse) (n : Name) (t : Option Name) → Contains (slot_types s p n) t → TakesSlot s p n t
takes s no_slot n t h = one_alone None t h
takes s equal_slot n t h = one_alone (Some n) t h
takes s in_slot n t h = let k = map_from (λ m. Some m) (n ∷ types_above s n) t h in (k.0, above s n k.0 k.1, sym k.2)

taken : (s : Schema) (p : SlotUse) (n : Name) (t : Option Name) → TakesSlot s p n t → Contains (slot_types s p n) t
taken s no_slot n t h = subst (Contains (None ∷ [])) (sym h) (contains_head None [])
taken s equal_slot n t h = subst (Contains (Some n ∷ [])) (sym h) (contains_head (Some n) [])
taken s in_slot n t h = subst (Contains (slot_types s in_slot n)) (sym h.2) (map_has (λ m. Some m) (n ∷ types_above s n) h.0 (at_or_above s n h.0 h.1))

pub slots_covered : (s : Schema) (p r : SlotUse) (x : Environment) → Contains (environments_for s p r) x ↔ IsLinked s p r x
slots_covered s p r x = (
  λ h. let e = flat_from (linked s p r) (environments s) x h in
      let m = flat_from (λ t. map (with_slots e.0 t) (slot_types s r e.0.resource)) (slot_types s p e.0.principal) x e.2 in
      let n = map_from (with_slots e.0 m.0) (slot_types s r e.0.resource) x m.2 in
      (e.0, e.1, (m.0, takes s p e.0.principal m.0 m.1, (n.0, takes s r e.0.resource n.0 n.1, sym n.2))),
  λ h. let e = h.0 in
      let m = h.2.0 in
      let n = h.2.2.0 in
      subst (Contains (environments_for s p r)) (sym h.2.2.2)
      (flat_has (linked s p r) (environments s) e (with_slots e m n) h.1
      (flat_has (λ t. map (with_slots e t) (slot_types s r e.resource)) (slot_types s p e.principal) m (with_slots e m n) (taken s p e.principal m h.2.1)
      (map_has (with_slots e m) (slot_types s r e.resource) n (taken s r e.resource n h.2.2.1)))),
)
