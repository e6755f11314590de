-- Types, actions and parents of the schema that declarations make.
use Rattle.std.proofs.Common.{◌≡◌, ◌↔◌, List, [], ◌∷◌, Bool, true, false, map, Option, Some, None, refl, sym, ap, ◌∙◌, subst, arith}
use Rattle.std.specs.Prelude.{Contains, is_some, if◌then◌else◌, find}
use Rattle.std.specs.List.{filter_map, cons_option}
use Rattle.cedar_expr_model.specs.Name.{Name, name_eq}
use Rattle.cedar_expr_model.specs.Uid.{Uid}
use Rattle.cedar_expr_model.proofs.Equality.{name_eq-Decides}
use Rattle.cedar_expr_model.proofs.Lists.{contains_cases, contains_none, contains_head, contains_tail, map_has, map_from}
use Rattle.cedar_schema_model.specs.Schema.{EntityType, Action, declares_type}
use Rattle.cedar_schema_model.specs.Descent.{type_names, Reaches, HasParent, HasActionParent, ActionDescends}
use Rattle.cedar_schema_model.specs.Descent as descent
use Rattle.cedar_schema_model.specs.Declarations.{Declarations, entity_name, action_uid, entity_names, action_uids, parent_meant}
use Rattle.cedar_schema_model.specs.WellFormed.{cycle_of_actions, action_as_entity_type, IsWellFormed}
use Rattle.cedar_schema_model.specs.Resolved.{entity_meant, resolved_entity, resolved_action, schema_of}
use Rattle.cedar_schema_model.specs.BagLaws.{IsDeclaredParent, HasParentAction}
use Rattle.cedar_schema_model.proofs.Decls.Reordered.{reaches_along}
use Rattle.cedar_schema_model.proofs.Decls.Faults.{no_schema_fault}

map_twice : {X Y Z : Type 0} (f : X → Y) (g : Y → Z) (xs : List X) → map g (map f xs) ≡ map (λ x. g (f x)) xs
map_twice f g [] = refl
map_twice f g (x ∷ xs) = ap (λ l. g (f x) ∷ l) (map_twice f g xs)

pub same_types : (d : Declarations) → type_names (schema_of d) ≡ entity_names d
same_types d = map_twice (resolved_entity d) (λ t. t.name) d.entities

pub same_actions : (d : Declarations) → descent.action_uids (schema_of d) ≡ action_uids d
same_actions d = map_twice (resolved_action d) (λ a. a.uid) d.actions

-- what a filter with a map keeps
kept_step : {X Y : Type 0} (f : X → Option Y) (x : X) (xs : List X) (y : Y) (o : Option Y) → f x ≡ o → (Contains (filter_map f xs) y → (z : X) × Contains xs z × (f z ≡ Some y)) → Contains (cons_option o (filter_map f xs)) y → (z : X) × Contains (x ∷ xs) z × (f z ≡ Some y)
kept_step f x xs y None e rest h = let r = rest h in (r.0, contains_tail x xs r.0 r.1, r.2)
kept_step {X} f x xs y (Some w) e rest h =
    contains_cases ((z : X) × Contains (x ∷ xs) z × (f z ≡ Some y)) w (filter_map f xs) y h
    (λ k. (x, contains_head x xs, e ∙ ap Some k))
    (λ k. let r = rest k in (r.0, contains_tail x xs r.0 r.1, r.2))

pub kept_from : {X Y : Type 0} (f : X → Option Y) (xs : List X) (y : Y) → Contains (filter_map f xs) y → (x : X) × Contains xs x × (f x ≡ Some y)
kept_from f [] y h = absurd (contains_none y h)
kept_from f (x ∷ xs) y h = kept_step f x xs y (f x) refl (kept_from f xs y) h

has_here : {Y : Type 0} (o : Option Y) (ys : List Y) (y : Y) → o ≡ Some y → Contains (cons_option o ys) y
has_here None ys y e = cc
has_here (Some w) ys y e = let same : w ≡ y = cc in subst (λ v. Contains (v ∷ ys) y) (sym same) (contains_head y ys)

has_later : {Y : Type 0} (o : Option Y) (ys : List Y) (y : Y) → Contains ys y → Contains (cons_option o ys) y
has_later None ys y h = h
has_later (Some w) ys y h = contains_tail w ys y h

pub kept_has : {X Y : Type 0} (f : X → Option Y) (xs : List X) (x : X) (y : Y) → Contains xs x → f x ≡ Some y → Contains (filter_map f xs) y
kept_has f [] x y h e = absurd (contains_none x h)
kept_has f (z ∷ xs) x y h e =
    contains_cases (Contains (filter_map f (z ∷ xs)) y) z xs x h
    (λ k. has_here (f z) (filter_map f xs) y (ap f k ∙ e))
    (λ k. has_later (f z) (filter_map f xs) y (kept_has f xs x y k e))

pub parents_meant : (d : Declarations) (m n : Name) → HasParent (schema_of d) m n ↔ IsDeclaredParent d m n
parents_meant d m n = (
  λ h. let t = map_from (resolved_entity d) d.entities h.0 h.1 in
      let w = kept_from (entity_meant d t.0.namespace) t.0.parents n (subst (λ (k : EntityType). Contains k.parents n) (sym t.2) h.3) in
      (t.0, t.1, h.2 ∙ ap (λ (k : EntityType). k.name) (sym t.2), w),
  λ h. (resolved_entity d h.0, map_has (resolved_entity d) d.entities h.0 h.1, h.2, kept_has (entity_meant d h.0.namespace) h.0.parents h.3.0 n h.3.1 h.3.2),
)

pub action_parents_meant : (d : Declarations) (u v : Uid) → HasActionParent (schema_of d) u v ↔ HasParentAction d u v
action_parents_meant d u v = (
  λ h. let a = map_from (resolved_action d) d.actions h.0 h.1 in
      let w = kept_from (parent_meant d a.0.namespace) a.0.parents v (subst (λ (k : Action). Contains k.parents v) (sym a.2) h.3) in
      (a.0, a.1, h.2 ∙ ap (λ (k : Action). k.uid) (sym a.2), w),
  λ h. (resolved_action d h.0, map_has (resolved_action d) d.actions h.0 h.1, h.2, kept_has (parent_meant d h.0.namespace) h.0.parents h.3.0 v h.3.1 h.3.2),
)

pub not_its_ancestor : (x : List Name) (d : Declarations) → IsWellFormed x d → (u : Uid) → ActionDescends (schema_of d) u u → ⊥
not_its_ancestor x d w u r = no_schema_fault x d w cycle_of_actions (6, omega arith, refl) (u, reaches_along (HasActionParent (schema_of d)) (HasParentAction d) (λ v y. (action_parents_meant d v y).0) u u r)

-- a type that no declaration has isn't found
not_found : (n : Name) (ts : List EntityType) → (Contains (map (λ t. t.name) ts) n → ⊥) → is_some (find (λ (x : EntityType). name_eq n x.name) ts) ≡ false
not_found n [] h = refl
not_found n (t ∷ ts) h = step (name_eq n t.name) refl (not_found n ts (λ k. h (contains_tail t.name (map (λ x. x.name) ts) n k)))
  where
    step : (b : Bool) → name_eq n t.name ≡ b → is_some (find (λ (x : EntityType). name_eq n x.name) ts) ≡ false → is_some (if b then Some t else find (λ (x : EntityType). name_eq n x.name) ts) ≡ false
    step true e rest = absurd (h (subst (Contains (map (λ x. x.name) (t ∷ ts))) (sym ((name_eq-Decides n t.name).0 e)) (contains_head t.name (map (λ x. x.name) ts))))
    step false e rest = rest

pub types_apart : (x : List Name) (d : Declarations) → IsWellFormed x d → (u : Uid) → Contains (action_uids d) u → declares_type (schema_of d) u.kind ≡ false
types_apart x d w u h =
    let a = map_from action_uid d.actions u h in
    not_found u.kind (schema_of d).types
    (λ k. let t = map_from entity_name d.entities u.kind (subst (λ l. Contains l u.kind) (same_types d) k) in
    no_schema_fault x d w action_as_entity_type (7, omega arith, refl) (t.0, t.1, ap (λ (v : Uid). v.kind.base) a.2 ∙ ap (λ (n : Name). n.base) (sym t.2)))
