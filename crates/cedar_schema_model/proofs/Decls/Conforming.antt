-- The tests of entities and requests decide which faults are there.
use Rattle.std.proofs.Common.{◌≡◌, ◌⊎◌, List, ◌∷◌, Bool, true, false, not, ◌&&◌, ◌||◌, Option, Some, None, refl, sym, arith, cond, ◌∙◌, subst, ap, []}
use Rattle.std.specs.Prelude.{Contains, is_some, is_none}
use Rattle.std.specs.Bool.{Decides}
use Rattle.std.specs.List.{list_any, list_all}
use Rattle.std.specs.Str.{bytes_eq}
use Rattle.std.proofs.lemmas.Bool.Decides.{Decides-and, Decides-or, Decides-not, Decides-like}
use Rattle.std.proofs.lemmas.Slice.Eq.{bytes_eq-Decides}
use Rattle.cedar_expr_model.specs.Name.{Text, Name, name_eq}
use Rattle.cedar_expr_model.specs.Uid.{Uid, uid_eq}
use Rattle.cedar_expr_model.proofs.Equality.{name_eq-Decides, uid_eq-Decides}
use Rattle.cedar_expr_model.proofs.Lists.{contains_tail, found-Decides, any-Decides, all-Decides, contains_none, contains_head, contains_cases}
use Rattle.cedar_expr_model.specs.Value.{V}
use Rattle.cedar_expr_model.specs.ValueParts.{Part, known, left}
use Rattle.cedar_store_model.specs.World.{Entity}
use Rattle.cedar_schema_model.specs.Types.{Ty, record_type, is_closed, attribute_named}
use Rattle.cedar_schema_model.specs.Schema.{standard, enumerated, external, Action, Schema, action_with, declares_action, EntityType, type_named}
use Rattle.cedar_schema_model.specs.Descent.{action_descends, ActionDescends, action_uids}
use Rattle.cedar_schema_model.specs.HasType.{HasType, has_type}
use Rattle.cedar_store_model.specs.Store.{OpenRequest}
use Rattle.cedar_schema_model.specs.Conforming.{ConformFault, undeclared, not_listed, no_member, lacks_attribute, undeclared_attribute, attribute_value, tag, ancestor, context_value, open_part, conform_faults, Place, among_actions, of_kind, nowhere, place_of, attributes_at, tags_at, attribute_list, type_at, is_no_member, is_refused, may_descend, lacks_ancestor, entity_fault_at, has_entity_fault, EntityConforms, entity_conforms, where_known, of_action, is_not_listed, has_request_fault, RequestConforms, request_conforms}
use Rattle.cedar_schema_model.specs.DeclLaws.{IsNoMember, IsRefused, MayDescend, MustDescend, HasLeft, EntityFaultAt, HasEntityFault, WhereKnown, OfAction, IsNotListed, HasRequestFault}
use Rattle.cedar_schema_model.proofs.Decls.Descent.{descends-Decides, action_descends-Decides, is_action_ancestor-Decides}
use Rattle.cedar_schema_model.proofs.Types.Values.{value_decided}
use Rattle.std.specs.Map.{lookup}
use Rattle.cedar_store_model.specs.Knowledge.{is_known}
use Rattle.std.specs.Option.{option_map_or}

-- nothing that holds
nowise : Decides false ⊥
nowise = (λ h. cc, λ h. absurd h)

pub not_false : (b : Bool) → Decides (not b) (b ≡ false)
not_false true = (λ h. sym h, λ h. sym h)
not_false false = (λ h. refl, λ h. refl)

nowhere-Decides : (b : Bool) (o : Option EntityType) → Decides (not (b || is_some o)) (cond b among_actions (option_map_or (λ t. of_kind t.kind) o nowhere) ≡ nowhere)
nowhere-Decides true o = (λ h. cc, λ h. cc)
nowhere-Decides false None = (λ h. refl, λ h. refl)
nowhere-Decides false (Some t) = (λ h. cc, λ h. cc)

no_member-Decides : (p : Place) (id : Text) → Decides (is_no_member p id) (IsNoMember p id)
no_member-Decides (of_kind (enumerated ids)) id = Decides-not _ (found-Decides bytes_eq bytes_eq-Decides id ids)
no_member-Decides (of_kind (standard as_ t)) id = nowise
no_member-Decides (of_kind external) id = nowise
no_member-Decides among_actions id = nowise
no_member-Decides nowhere id = nowise

pub is_none-Decides : {A : Type 0} (o : Option A) → Decides (not (is_some o)) (o ≡ None)
is_none-Decides None = (λ h. refl, λ h. refl)
is_none-Decides (Some a) = (λ h. cc, λ h. cc)

pub is_true-Decides : (b : Bool) → Decides b (b ≡ true)
is_true-Decides b = (λ h. h, λ h. h)

refused-Decides : (t : Option Ty) (x : Part V) → Decides (is_refused t x) (IsRefused t x)
refused-Decides (Some t) (known v) = Decides-not _ (value_decided v t)
refused-Decides (Some t) (left x) = nowise
refused-Decides None x = nowise

left-Decides : (ps : List (Text × Part V)) → Decides (not (list_all (λ x. is_known x.1) ps)) (HasLeft ps)
left-Decides [] = (λ h. cc, λ h. absurd (contains_none h.0 h.1))
left-Decides (y ∷ ys) = go (is_known y.1) refl (left-Decides ys)
  where
    go : (b : Bool) → is_known y.1 ≡ b → Decides (not (list_all (λ x. is_known x.1) ys)) (HasLeft ys) → Decides (not (b && list_all (λ x. is_known x.1) ys)) (HasLeft (y ∷ ys))
    go false e d = (λ h. (y, contains_head y ys, e), λ h. refl)
    go true e d = (
      λ h. let r = d.0 h in (r.0, contains_tail y ys r.0 r.1, r.2),
      λ h. d.1 (contains_cases (HasLeft ys) y ys h.0 h.1 (λ q. let k = ap (λ (z : Text × Part V). is_known z.1) q in let l = h.2 in cc) (λ k. (h.0, k, h.2))),
    )

not_both : (a b : Bool) → not (a && b) ≡ (not a || not b)
not_both true b = refl
not_both false b = refl

pub may_descend-Decides : (s : Schema) (u : Uid) (p : Place) (v : Uid) → Decides (may_descend s u p v) (MayDescend s u p v)
may_descend-Decides s u among_actions v = is_action_ancestor-Decides s u v
may_descend-Decides s u (of_kind (enumerated ids)) v = nowise
may_descend-Decides s u (of_kind (standard as_ t)) v = descends-Decides s u.kind v.kind
may_descend-Decides s u (of_kind external) v = descends-Decides s u.kind v.kind
may_descend-Decides s u nowhere v = descends-Decides s u.kind v.kind

-- an ancestor that lacks
abbrev LacksAncestor : Schema → Uid → Place → List Uid → Type 0
LacksAncestor s u p vs = (v : Uid) × MustDescend s u p v × (Contains vs v → ⊥)

none_lacks : (s : Schema) (u : Uid) (p : Place) (vs : List Uid) → ((v : Uid) → MustDescend s u p v → ⊥) → Decides false (LacksAncestor s u p vs)
none_lacks s u p vs h = (λ e. cc, λ e. absurd (h e.0 e.1))

lacks_ancestor-Decides : (s : Schema) (u : Uid) (p : Place) (vs : List Uid) → Decides (lacks_ancestor s u p vs) (LacksAncestor s u p vs)
lacks_ancestor-Decides s u among_actions vs =
    Decides-like _ (λ h. (h.0, (h.1, h.2.0), h.2.1)) (λ h. (h.0, h.1.0, (h.1.1, h.2)))
    (any-Decides (λ v. action_descends s u v && not (list_any (uid_eq v) vs)) (λ v. ActionDescends s u v × (Contains vs v → ⊥))
    (λ v. Decides-and _ _ (action_descends-Decides s u v) (Decides-not _ (found-Decides uid_eq uid_eq-Decides v vs))) (action_uids s))
lacks_ancestor-Decides s u (of_kind k) vs = none_lacks s u (of_kind k) vs (λ v h. h)
lacks_ancestor-Decides s u nowhere vs = none_lacks s u nowhere vs (λ v h. h)

fault_at-Decides : (s : Schema) (u : Uid) (e : Entity V) (p : Place) → p ≡ place_of s u → (f : ConformFault) → Decides (entity_fault_at s u e p f) (EntityFaultAt s u e p f)
fault_at-Decides s u e p q undeclared = let d = nowhere-Decides (declares_action s u) (type_named s u.kind) in (λ h. q ∙ d.0 h, λ h. d.1 (sym q ∙ h))
fault_at-Decides s u e p q no_member = no_member-Decides p u.id
fault_at-Decides s u e p q lacks_attribute =
    Decides-like _ (λ h. (h.0, h.1, h.2.0, h.2.1)) (λ h. (h.0, h.1, (h.2, h.3)))
    (any-Decides (λ d. d.1.is_required && is_none (lookup (bytes_eq d.0) e.attributes)) (λ d. (d.1.is_required ≡ true) × (lookup (bytes_eq d.0) e.attributes ≡ None))
    (λ d. Decides-and _ _ (is_true-Decides d.1.is_required) (is_none-Decides (lookup (bytes_eq d.0) e.attributes))) (attribute_list (attributes_at p)))
fault_at-Decides s u e p q undeclared_attribute =
    any-Decides (λ x. is_none (attribute_named x.0 (attributes_at p))) (λ x. attribute_named x.0 (attributes_at p) ≡ None) (λ x. is_none-Decides (attribute_named x.0 (attributes_at p))) e.attributes
fault_at-Decides s u e p q attribute_value =
    any-Decides (λ x. is_refused (type_at (attributes_at p) x.0) x.1) (λ x. IsRefused (type_at (attributes_at p) x.0) x.1) (λ x. refused-Decides (type_at (attributes_at p) x.0) x.1) e.attributes
fault_at-Decides s u e p q tag =
    any-Decides (λ x. is_none (tags_at p) || is_refused (tags_at p) x.1) (λ x. (tags_at p ≡ None) ⊎ IsRefused (tags_at p) x.1)
    (λ x. Decides-or _ _ (is_none-Decides (tags_at p)) (refused-Decides (tags_at p) x.1)) e.tags
fault_at-Decides s u e p q ancestor =
    Decides-or _ _
    (any-Decides (λ v. not (may_descend s u p v)) (λ v. MayDescend s u p v → ⊥) (λ v. Decides-not _ (may_descend-Decides s u p v)) e.ancestors)
    (lacks_ancestor-Decides s u p e.ancestors)
fault_at-Decides s u e p q open_part =
    subst (λ b. Decides b (HasLeft e.attributes ⊎ HasLeft e.tags)) (sym (not_both (list_all (λ x. is_known x.1) e.attributes) (list_all (λ x. is_known x.1) e.tags)))
    (Decides-or _ _ (left-Decides e.attributes) (left-Decides e.tags))
fault_at-Decides s u e p q not_listed = nowise
fault_at-Decides s u e p q context_value = nowise

pub entity_fault-Decides : (s : Schema) (u : Uid) (e : Entity V) (f : ConformFault) → Decides (has_entity_fault s u e f) (HasEntityFault s u e f)
entity_fault-Decides s u e f = fault_at-Decides s u e (place_of s u) refl f

-- each fault stands in the list of all
later : (f g : ConformFault) (fs : List ConformFault) → Contains fs f → Contains (g ∷ fs) f
later f g fs h = contains_tail g fs f h

pub each_fault : (f : ConformFault) → Contains conform_faults f
each_fault undeclared = (0, omega arith, refl)
each_fault not_listed = (1, omega arith, refl)
each_fault no_member = (2, omega arith, refl)
each_fault lacks_attribute = (3, omega arith, refl)
each_fault undeclared_attribute = (4, omega arith, refl)
each_fault attribute_value = (5, omega arith, refl)
each_fault tag = (6, omega arith, refl)
each_fault ancestor = (7, omega arith, refl)
each_fault context_value = (8, omega arith, refl)
each_fault open_part = (9, omega arith, refl)

pub entity_conforms-Decides : (s : Schema) (u : Uid) (e : Entity V) → Decides (entity_conforms s u e) (EntityConforms s u e)
entity_conforms-Decides s u e =
    Decides-like _ (λ h f. h f (each_fault f)) (λ h f k. h f)
    (all-Decides (λ f. not (has_entity_fault s u e f)) (λ f. has_entity_fault s u e f ≡ false) (λ f. not_false (has_entity_fault s u e f)) conform_faults)

-- a fault isn't there exactly where its test is false
pub none_there : {P : Type 0} (b : Bool) → Decides b P → b ≡ false → P → ⊥
none_there true d e p = cc
none_there false d e p = cc (d.1 p)

pub is_lacking : {P : Type 0} (b : Bool) → Decides b P → (P → ⊥) → b ≡ false
is_lacking true d h = absurd (h (d.0 refl))
is_lacking false d h = refl

pub no_entity_fault : (s : Schema) (u : Uid) (e : Entity V) → EntityConforms s u e → (f : ConformFault) → HasEntityFault s u e f → ⊥
no_entity_fault s u e c f = none_there (has_entity_fault s u e f) (entity_fault-Decides s u e f) (c f)

pub where_no_entity_fault : (s : Schema) (u : Uid) (e : Entity V) → ((f : ConformFault) → HasEntityFault s u e f → ⊥) → EntityConforms s u e
where_no_entity_fault s u e h f = is_lacking (has_entity_fault s u e f) (entity_fault-Decides s u e f) (h f)

-- requests
where_known-Decides : {A : Type 0} (o : Option A) (test : A → Bool) (holds : A → Type 0) → ((a : A) → Decides (test a) (holds a)) → Decides (where_known o test) (WhereKnown o holds)
where_known-Decides None test holds each = nowise
where_known-Decides (Some a) test holds each = each a

of_action-Decides : (s : Schema) (r : OpenRequest) (test : Action → Bool) (holds : Action → Type 0) → ((a : Action) → Decides (test a) (holds a)) → Decides (of_action s r test) (OfAction s r holds)
of_action-Decides s r test holds each =
    where_known-Decides r.action (λ u. where_known (action_with s u) test) (λ u. WhereKnown (action_with s u) holds) (λ u. where_known-Decides (action_with s u) test holds each)

not_listed-Decides : (ns : List Name) (u : Option Uid) → Decides (is_not_listed ns u) (IsNotListed ns u)
not_listed-Decides ns u = where_known-Decides u (λ v. not (list_any (name_eq v.kind) ns)) (λ v. Contains ns v.kind → ⊥) (λ v. Decides-not _ (found-Decides name_eq name_eq-Decides v.kind ns))

is_member-Decides : (s : Schema) (u : Option Uid) → Decides (where_known u (λ v. is_no_member (place_of s v) v.id)) (WhereKnown u (λ v. IsNoMember (place_of s v) v.id))
is_member-Decides s u = where_known-Decides u (λ v. is_no_member (place_of s v) v.id) (λ v. IsNoMember (place_of s v) v.id) (λ v. no_member-Decides (place_of s v) v.id)

refuses_context-Decides : (r : OpenRequest) (a : Action) → Decides (where_known r.context (λ v. not (has_type v (record_type a.context is_closed)))) (WhereKnown r.context (λ v. HasType v (record_type a.context is_closed) → ⊥))
refuses_context-Decides r a =
    where_known-Decides r.context (λ v. not (has_type v (record_type a.context is_closed))) (λ v. HasType v (record_type a.context is_closed) → ⊥)
    (λ v. Decides-not _ (value_decided v (record_type a.context is_closed)))

pub request_fault-Decides : (s : Schema) (r : OpenRequest) (f : ConformFault) → Decides (has_request_fault s r f) (HasRequestFault s r f)
request_fault-Decides s r undeclared = where_known-Decides r.action (λ u. not (declares_action s u)) (λ u. declares_action s u ≡ false) (λ u. not_false (declares_action s u))
request_fault-Decides s r not_listed =
    of_action-Decides s r (λ a. is_not_listed a.principals r.principal || is_not_listed a.resources r.resource) (λ a. IsNotListed a.principals r.principal ⊎ IsNotListed a.resources r.resource)
    (λ a. Decides-or _ _ (not_listed-Decides a.principals r.principal) (not_listed-Decides a.resources r.resource))
request_fault-Decides s r no_member = Decides-or _ _ (is_member-Decides s r.principal) (is_member-Decides s r.resource)
request_fault-Decides s r context_value =
    of_action-Decides s r (λ a. where_known r.context (λ v. not (has_type v (record_type a.context is_closed)))) (λ a. WhereKnown r.context (λ v. HasType v (record_type a.context is_closed) → ⊥))
    (refuses_context-Decides r)
request_fault-Decides s r open_part =
    Decides-or _ _ (Decides-or _ _ (is_none-Decides r.principal) (is_none-Decides r.action)) (Decides-or _ _ (is_none-Decides r.resource) (is_none-Decides r.context))
request_fault-Decides s r lacks_attribute = nowise
request_fault-Decides s r undeclared_attribute = nowise
request_fault-Decides s r attribute_value = nowise
request_fault-Decides s r tag = nowise
request_fault-Decides s r ancestor = nowise

pub request_conforms-Decides : (s : Schema) (r : OpenRequest) → Decides (request_conforms s r) (RequestConforms s r)
request_conforms-Decides s r =
    Decides-like _ (λ h f. h f (each_fault f)) (λ h f k. h f)
    (all-Decides (λ f. not (has_request_fault s r f)) (λ f. has_request_fault s r f ≡ false) (λ f. not_false (has_request_fault s r f)) conform_faults)

pub no_request_fault : (s : Schema) (r : OpenRequest) → RequestConforms s r → (f : ConformFault) → HasRequestFault s r f → ⊥
no_request_fault s r c f = none_there (has_request_fault s r f) (request_fault-Decides s r f) (c f)

pub where_no_request_fault : (s : Schema) (r : OpenRequest) → ((f : ConformFault) → HasRequestFault s r f → ⊥) → RequestConforms s r
where_no_request_fault s r h f = is_lacking (has_request_fault s r f) (request_fault-Decides s r f) (h f)
