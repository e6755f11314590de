-- What the schema of declarations names is declared, and nothing that is written is dropped.
use Rattle.std.proofs.Common.{◌≡◌, List, [], ◌∷◌, Bool, true, Option, Some, None, refl, sym, ap, subst, ⊎_elim, arith}
use Rattle.std.specs.Prelude.{Contains, is_some}
use Rattle.std.specs.List.{flat_map}
use Rattle.std.proofs.lemmas.List.Elements.{Contains-append_left, Contains-append_right}
use Rattle.cedar_expr_model.specs.Name.{Name, name_eq}
use Rattle.cedar_expr_model.specs.Uid.{Uid, uid_eq}
use Rattle.cedar_expr_model.proofs.Equality.{name_eq-Decides, uid_eq-Decides}
use Rattle.cedar_expr_model.proofs.Lists.{contains_cases, contains_none, contains_head, contains_tail, found-Decides, map_has, map_from, flat_has, flat_from}
use Rattle.cedar_schema_model.specs.Schema.{Action}
use Rattle.cedar_schema_model.specs.Descent.{Chain, type_names, Descends, ActionDescends, HasParent, HasActionParent}
use Rattle.cedar_schema_model.specs.Descent as descent
use Rattle.cedar_schema_model.specs.Reference.{Namespace, to_entity, Reference, Meant, meant_common, meant_entity, places, candidates, action_candidates}
use Rattle.cedar_schema_model.specs.Declarations.{EntityDeclaration, ActionDeclaration, Declarations, entity_names, action_uids, is_declared, is_declared_action, meant, parent_meant, to_entities, references_of_common, references_of_entity, references_of_action, references}
use Rattle.cedar_schema_model.specs.WellFormed.{undeclared_type, undeclared_action, IsWellFormed}
use Rattle.cedar_schema_model.specs.Resolved.{entity_of, entity_meant, resolved_action, schema_of}
use Rattle.cedar_schema_model.specs.BagLaws.{KeepsEach, IsFirst}
use Rattle.cedar_schema_model.proofs.Decls.Faults.{first_is, first_passes, meant_is_declared, no_schema_fault}
use Rattle.cedar_schema_model.proofs.Decls.Schema.{kept_from, parents_meant, action_parents_meant, same_types, same_actions}

-- an entity type that is meant is declared
of_entity : (o : Option Meant) (m : Name) → entity_of o ≡ Some m → o ≡ Some (meant_entity m)
of_entity None m h = cc
of_entity (Some (meant_common n)) m h = cc
of_entity (Some (meant_entity n)) m h = ap (λ k. Some (meant_entity k)) (some_same n m h)
  where
    some_same : (a b : Name) → Some a ≡ Some b → a ≡ b
    some_same a b e = cc

pub entity_declared : (d : Declarations) (ns : Namespace) (w m : Name) → entity_meant d ns w ≡ Some m → Contains (type_names (schema_of d)) m
entity_declared d ns w m h =
    let r : Reference = record { namespace = ns; kind = to_entity; name = w } in
    subst (λ l. Contains l m) (sym (same_types d)) ((found-Decides name_eq name_eq-Decides m (entity_names d)).0 (meant_is_declared d r (meant_entity m) (of_entity (meant d r) m h)))

pub parent_declared : (d : Declarations) (ns : Namespace) (w v : Uid) → parent_meant d ns w ≡ Some v → Contains (descent.action_uids (schema_of d)) v
parent_declared d ns w v h =
    subst (λ l. Contains l v) (sym (same_actions d))
    ((found-Decides uid_eq uid_eq-Decides v (action_uids d)).0 (first_passes (is_declared_action d) (action_candidates ns w) v (first_is (is_declared_action d) (action_candidates ns w) v h)))

above_declared : (d : Declarations) (m : Name) (zs : List Name) (n : Name) → Chain (HasParent (schema_of d)) m zs n → Contains (type_names (schema_of d)) n
above_declared d m [] n h = let k = (parents_meant d m n).0 h in entity_declared d k.0.namespace k.3.0 n k.3.2
above_declared d m (z ∷ zs) n h = above_declared d z zs n h.1

action_above_declared : (d : Declarations) (u : Uid) (zs : List Uid) (v : Uid) → Chain (HasActionParent (schema_of d)) u zs v → Contains (descent.action_uids (schema_of d)) v
action_above_declared d u [] v h = let k = (action_parents_meant d u v).0 h in parent_declared d k.0.namespace k.3.0 v k.3.2
action_above_declared d u (z ∷ zs) v h = action_above_declared d z zs v h.1

pub ancestors_named : (d : Declarations) (m n : Name) → Descends (schema_of d) m n → Contains (type_names (schema_of d)) n
ancestors_named d m n h = above_declared d m h.0 n h.1

pub action_ancestors_named : (d : Declarations) (u v : Uid) → ActionDescends (schema_of d) u v → Contains (descent.action_uids (schema_of d)) v
action_ancestors_named d u v h = action_above_declared d u h.0 v h.1

pub principals_named : (d : Declarations) (a : Action) → Contains (schema_of d).actions a → (n : Name) → Contains a.principals n → Contains (type_names (schema_of d)) n
principals_named d a h n k =
    let b = map_from (resolved_action d) d.actions a h in
    let w = kept_from (entity_meant d b.0.namespace) b.0.principals n (subst (λ (x : Action). Contains x.principals n) (sym b.2) k) in
    entity_declared d b.0.namespace w.0 n w.2

pub resources_named : (d : Declarations) (a : Action) → Contains (schema_of d).actions a → (n : Name) → Contains a.resources n → Contains (type_names (schema_of d)) n
resources_named d a h n k =
    let b = map_from (resolved_action d) d.actions a h in
    let w = kept_from (entity_meant d b.0.namespace) b.0.resources n (subst (λ (x : Action). Contains x.resources n) (sym b.2) k) in
    entity_declared d b.0.namespace w.0 n w.2

-- what is meant where an entity type is due is one
first_among : {X : Type 0} (p : X → Bool) (xs : List X) (y : X) → IsFirst p xs y → Contains xs y
first_among p [] y h = absurd h
first_among p (x ∷ xs) y h = ⊎_elim (λ k. subst (Contains (x ∷ xs)) (sym k.1) (contains_head x xs)) (λ k. contains_tail x xs y (first_among p xs y k.1)) h

entity_candidate : (ns : Namespace) (w : Name) (m : Meant) → Contains (candidates (record { namespace = ns; kind = to_entity; name = w })) m → (n : Name) × (m ≡ meant_entity n)
entity_candidate ns w m h =
    let r = flat_from (λ n. meant_entity n ∷ []) (places ns w) m h in
    contains_cases ((n : Name) × (m ≡ meant_entity n)) (meant_entity r.0) [] m r.2 (λ e. (r.0, sym e)) (λ k. absurd (contains_none m k))

entity_is_meant : (d : Declarations) (ns : Namespace) (w : Name) (o : Option Meant) → meant d (record { namespace = ns; kind = to_entity; name = w }) ≡ o → (o ≡ None → ⊥) → is_some (entity_of o) ≡ true
entity_is_meant d ns w None e h = absurd (h refl)
entity_is_meant d ns w (Some m) e h =
    let r : Reference = record { namespace = ns; kind = to_entity; name = w } in
    let c = entity_candidate ns w m (first_among (is_declared d) (candidates r) m (first_is (is_declared d) (candidates r) m e)) in
    ap (λ x. is_some (entity_of (Some x))) c.1

each_meant : (x : List Name) (d : Declarations) → IsWellFormed x d → (ns : Namespace) (ws : List Name) → ((r : Reference) → Contains (to_entities ns ws) r → Contains (references d) r) → KeepsEach (entity_meant d ns) ws
each_meant x d w ns ws within n h =
    let r : Reference = record { namespace = ns; kind = to_entity; name = n } in
    entity_is_meant d ns n (meant d r) refl (λ e. no_schema_fault x d w undeclared_type (3, omega arith, refl) (r, within r (map_has (λ k. record { namespace = ns; kind = to_entity; name = k }) ws n h), e))

of_entities : (d : Declarations) (t : EntityDeclaration) → Contains d.entities t → (r : Reference) → Contains (references_of_entity t) r → Contains (references d) r
of_entities d t h r k =
    Contains-append_right (flat_map references_of_common d.commons) _ r
    (Contains-append_left (flat_map references_of_entity d.entities) _ r (flat_has references_of_entity d.entities t r h k))

of_actions : (d : Declarations) (a : ActionDeclaration) → Contains d.actions a → (r : Reference) → Contains (references_of_action a) r → Contains (references d) r
of_actions d a h r k =
    Contains-append_right (flat_map references_of_common d.commons) _ r
    (Contains-append_right (flat_map references_of_entity d.entities) _ r (flat_has references_of_action d.actions a r h k))

pub parents_kept : (x : List Name) (d : Declarations) → IsWellFormed x d → (t : EntityDeclaration) → Contains d.entities t → KeepsEach (entity_meant d t.namespace) t.parents
parents_kept x d w t h = each_meant x d w t.namespace t.parents (λ r k. of_entities d t h r (Contains-append_left (to_entities t.namespace t.parents) _ r k))

pub principals_kept : (x : List Name) (d : Declarations) → IsWellFormed x d → (a : ActionDeclaration) → Contains d.actions a → KeepsEach (entity_meant d a.namespace) a.principals
principals_kept x d w a h = each_meant x d w a.namespace a.principals (λ r k. of_actions d a h r (Contains-append_left (to_entities a.namespace a.principals) _ r k))

pub resources_kept : (x : List Name) (d : Declarations) → IsWellFormed x d → (a : ActionDeclaration) → Contains d.actions a → KeepsEach (entity_meant d a.namespace) a.resources
resources_kept x d w a h =
    each_meant x d w a.namespace a.resources
    (λ r k. of_actions d a h r (Contains-append_right (to_entities a.namespace a.principals) _ r (Contains-append_left (to_entities a.namespace a.resources) _ r k)))

some_there : {A : Type 0} (o : Option A) → (o ≡ None → ⊥) → is_some o ≡ true
some_there None h = absurd (h refl)
some_there (Some a) h = refl

pub action_parents_kept : (x : List Name) (d : Declarations) → IsWellFormed x d → (a : ActionDeclaration) → Contains d.actions a → KeepsEach (parent_meant d a.namespace) a.parents
action_parents_kept x d w a h u k = some_there (parent_meant d a.namespace u) (λ e. no_schema_fault x d w undeclared_action (4, omega arith, refl) (a, h, (u, k, e)))
