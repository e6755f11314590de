-- Conforming read directly.
use Rattle.std.proofs.Common.{◌≡◌, ◌↔◌, ◌⊎◌, Bool, true, false, Option, Some, None, refl, sym, ap, subst, inl, inr, ⊎_elim, ◌∙◌}
use Rattle.std.specs.Prelude.{is_some, option_map}
use Rattle.std.specs.Bool.{Decides}
use Rattle.std.specs.List.{list_any}
use Rattle.cedar_expr_model.specs.Name.{name_eq}
use Rattle.cedar_expr_model.specs.Uid.{Uid, uid_eq}
use Rattle.cedar_expr_model.proofs.Equality.{name_eq-Decides, uid_eq-Decides}
use Rattle.cedar_expr_model.proofs.Lists.{found-Decides}
use Rattle.cedar_expr_model.specs.Value.{V, record_of, Fields, prim, truth, long, text, entity, set_of, extension}
use Rattle.cedar_expr_model.specs.ValueParts.{Part, known, left}
use Rattle.cedar_store_model.specs.World.{Entity, Request}
use Rattle.cedar_schema_model.specs.Types.{Ty, record_type, is_closed, Declared, attribute_named, Attributes, Openness}
use Rattle.cedar_schema_model.specs.Schema.{Action, Schema, action_with}
use Rattle.cedar_schema_model.specs.HasType.{HasType, has_type}
use Rattle.cedar_store_model.specs.Store.{OpenRequest, as_open}
use Rattle.cedar_schema_model.specs.Conforming.{ConformFault, undeclared, not_listed, no_member, lacks_attribute, undeclared_attribute, attribute_value, tag, ancestor, context_value, open_part, place_of, attributes_at, tags_at, type_at, may_descend, EntityConforms, RequestConforms}
use Rattle.cedar_schema_model.specs.DeclLaws.{IsRefused, HasEntityFault, WhereKnown, OfAction, IsNotListed, HasRequestFault, IsOf, IsGoodEntity, IsGoodFor, IsGoodRequest, IsKnownAndGood}
use Rattle.cedar_schema_model.proofs.Types.Values.{value_decided}
use Rattle.cedar_schema_model.proofs.Decls.Conforming.{may_descend-Decides, no_entity_fault, where_no_entity_fault, no_request_fault, where_no_request_fault}
use Rattle.std.specs.Map.{lookup}
use Rattle.std.specs.Str.{bytes_eq}
use Rattle.cedar_store_model.specs.Knowledge.{is_known}

-- what isn't refused by a test that decides
pub not_not : {P : Type 0} (b : Bool) → Decides b P → ((P → ⊥) → ⊥) → P
not_not true d h = d.0 refl
not_not false d h = absurd (h (λ p. cc (d.1 p)))

there : {A : Type 0} (o : Option A) → (o ≡ None → ⊥) → is_some o ≡ true
there None h = absurd (h refl)
there (Some a) h = refl

not_there : {A : Type 0} (o : Option A) → is_some o ≡ true → o ≡ None → ⊥
not_there None h e = cc
not_there (Some a) h e = cc

-- a part that has a type, is not refused and not left is of the type
stands : (t : Option Ty) (x : Part V) → (t ≡ None → ⊥) → (IsRefused t x → ⊥) → (is_known x ≡ false → ⊥) → IsOf t x
stands None x n r l = absurd (n refl)
stands (Some t) (known v) n r l = not_not (has_type v t) (value_decided v t) r
stands (Some t) (left y) n r l = absurd (l refl)

-- and back
not_left : (t : Option Ty) (x : Part V) → IsOf t x → is_known x ≡ false → ⊥
not_left None x h e = h
not_left (Some t) (known v) h e = cc
not_left (Some t) (left y) h e = h

not_refused : (t : Option Ty) (x : Part V) → IsOf t x → IsRefused t x → ⊥
not_refused None x h r = h
not_refused (Some t) (known v) h r = r h
not_refused (Some t) (left y) h r = h

typed : (t : Option Ty) (x : Part V) → IsOf t x → t ≡ None → ⊥
typed None x h e = h
typed (Some t) x h e = cc

-- an attribute that isn't declared has no type, and the other way round
no_type : (d : Option Declared) → d ≡ None → option_map (λ (k : Declared). k.type) d ≡ None
no_type None e = refl
no_type (Some d) e = cc

not_declared : (d : Option Declared) → option_map (λ (k : Declared). k.type) d ≡ None → d ≡ None
not_declared None e = refl
not_declared (Some d) e = cc

good_where : (s : Schema) (u : Uid) (e : Entity V) → ((f : ConformFault) → HasEntityFault s u e f → ⊥) → IsGoodEntity s u e
good_where s u e c =
    let p = place_of s u in
    record {
      is_declared = c undeclared;
      member = c no_member;
      required = λ d h r. there (lookup (bytes_eq d.0) e.attributes) (λ n. c lacks_attribute (d, h, r, n));
      attributes = λ x h. stands (type_at (attributes_at p) x.0) x.1 (λ n. c undeclared_attribute (x, h, not_declared (attribute_named x.0 (attributes_at p)) n)) (λ n. c attribute_value (x, h, n)) (λ l. c open_part (inl (x, h, l)));
      tags = λ x h. stands (tags_at p) x.1 (λ n. c tag (x, h, inl n)) (λ n. c tag (x, h, inr n)) (λ l. c open_part (inr (x, h, l)));
      allowed = λ v h. not_not (may_descend s u p v) (may_descend-Decides s u p v) (λ n. c ancestor (inl (v, h, n)));
      whole = λ v h. not_not (list_any (uid_eq v) e.ancestors) (found-Decides uid_eq uid_eq-Decides v e.ancestors) (λ n. c ancestor (inr (v, h, n)));
    }

good_is_faultless : (s : Schema) (u : Uid) (e : Entity V) → IsGoodEntity s u e → (f : ConformFault) → HasEntityFault s u e f → ⊥
good_is_faultless s u e g undeclared h = g.is_declared h
good_is_faultless s u e g no_member h = g.member h
good_is_faultless s u e g lacks_attribute h = not_there (lookup (bytes_eq h.0.0) e.attributes) (g.required h.0 h.1 h.2) h.3
good_is_faultless s u e g undeclared_attribute h =
    typed (type_at (attributes_at (place_of s u)) h.0.0) h.0.1 (g.attributes h.0 h.1) (no_type (attribute_named h.0.0 (attributes_at (place_of s u))) h.2)
good_is_faultless s u e g attribute_value h = not_refused (type_at (attributes_at (place_of s u)) h.0.0) h.0.1 (g.attributes h.0 h.1) h.2
good_is_faultless s u e g tag h = ⊎_elim (λ n. typed (tags_at (place_of s u)) h.0.1 (g.tags h.0 h.1) n) (λ n. not_refused (tags_at (place_of s u)) h.0.1 (g.tags h.0 h.1) n) h.2
good_is_faultless s u e g ancestor h = ⊎_elim (λ k. k.2 (g.allowed k.0 k.1)) (λ k. k.2 (g.whole k.0 k.1)) h
good_is_faultless s u e g open_part h =
    ⊎_elim
    (λ k. not_left (type_at (attributes_at (place_of s u)) k.0.0) k.0.1 (g.attributes k.0 k.1) k.2)
    (λ k. not_left (tags_at (place_of s u)) k.0.1 (g.tags k.0 k.1) k.2)
    h
good_is_faultless s u e g not_listed h = h
good_is_faultless s u e g context_value h = h

pub good_entity : (s : Schema) (u : Uid) (e : Entity V) → EntityConforms s u e → IsGoodEntity s u e
good_entity s u e c = good_where s u e (no_entity_fault s u e c)

good_conforms : (s : Schema) (u : Uid) (e : Entity V) → IsGoodEntity s u e → EntityConforms s u e
good_conforms s u e g = where_no_entity_fault s u e (good_is_faultless s u e g)

pub entities_read : (s : Schema) (u : Uid) (e : Entity V) → EntityConforms s u e ↔ IsGoodEntity s u e
entities_read s u e = (good_entity s u e, good_conforms s u e)

-- requests
declared_action : (a : Option Action) → (is_some a ≡ false → ⊥) → (b : Action) × (a ≡ Some b)
declared_action None h = absurd (h refl)
declared_action (Some b) h = (b, refl)

of_found : (s : Schema) (q : Request) (a : Action) (holds : Action → Type 0) → action_with s q.action ≡ Some a → holds a → OfAction s (as_open q) holds
of_found s q a holds e h = subst (λ o. WhereKnown o holds) (sym e) h

from_found : (s : Schema) (q : Request) (a : Action) (holds : Action → Type 0) → action_with s q.action ≡ Some a → OfAction s (as_open q) holds → holds a
from_found s q a holds e h = subst (λ o. WhereKnown o holds) e h

-- a request without faults
abbrev IsFaultless : Schema → OpenRequest → Type 0
IsFaultless s r = (f : ConformFault) → HasRequestFault s r f → ⊥

good_for : (s : Schema) (q : Request) → IsFaultless s (as_open q) → (a : Action) → action_with s q.action ≡ Some a → IsGoodFor s q a
good_for s q c a e =
    record {
      action = e;
      principal = not_not (list_any (name_eq q.principal.kind) a.principals) (found-Decides name_eq name_eq-Decides q.principal.kind a.principals)
          (λ n. c not_listed (of_found s q a (λ b. IsNotListed b.principals (Some q.principal) ⊎ IsNotListed b.resources (Some q.resource)) e (inl n)));
      resource = not_not (list_any (name_eq q.resource.kind) a.resources) (found-Decides name_eq name_eq-Decides q.resource.kind a.resources)
          (λ n. c not_listed (of_found s q a (λ b. IsNotListed b.principals (Some q.principal) ⊎ IsNotListed b.resources (Some q.resource)) e (inr n)));
      principal_member = λ n. c no_member (inl n);
      resource_member = λ n. c no_member (inr n);
      context = not_not (has_type (record_of q.context) (record_type a.context is_closed)) (value_decided (record_of q.context) (record_type a.context is_closed))
          (λ n. c context_value (of_found s q a (λ b. HasType (record_of q.context) (record_type b.context is_closed) → ⊥) e n));
    }

good_request : (s : Schema) (q : Request) → IsFaultless s (as_open q) → IsGoodRequest s q
good_request s q c = let d = declared_action (action_with s q.action) (c undeclared) in (d.0, good_for s q c d.0 d.1)

known_part : {A : Type 0} (o : Option A) → (o ≡ None → ⊥) → (a : A) × (o ≡ Some a)
known_part None h = absurd (h refl)
known_part (Some a) h = (a, refl)

record_value : (v : V) (as_ : Attributes) (o : Openness) → HasType v (record_type as_ o) → (fs : Fields) × (v ≡ record_of fs)
record_value (prim (truth b)) as_ o h = absurd h
record_value (prim (long n)) as_ o h = absurd h
record_value (prim (text t)) as_ o h = absurd h
record_value (prim (entity u)) as_ o h = absurd h
record_value (set_of vs) as_ o h = absurd h
record_value (record_of fs) as_ o h = (fs, refl)
record_value (extension n k) as_ o h = absurd h

known_and_good : (s : Schema) (r : OpenRequest) → IsFaultless s r → IsKnownAndGood s r
known_and_good s r c =
    let p = known_part r.principal (λ h. c open_part (inl (inl h))) in
    let a = known_part r.action (λ h. c open_part (inl (inr h))) in
    let o = known_part r.resource (λ h. c open_part (inr (inl h))) in
    let x = known_part r.context (λ h. c open_part (inr (inr h))) in
    let w : OpenRequest = record { principal = Some p.0; action = Some a.0; resource = Some o.0; context = Some x.0 } in
    let e : r ≡ w = λ i. record { principal = p.1 i; action = a.1 i; resource = o.1 i; context = x.1 i } in
    let f = subst (IsFaultless s) e c in
    let d = declared_action (action_with s a.0) (f undeclared) in
    let t = record_type d.0.context is_closed in
    let h = not_not (has_type x.0 t) (value_decided x.0 t) (λ n. f context_value (subst (λ b. WhereKnown b (λ (k : Action). HasType x.0 (record_type k.context is_closed) → ⊥)) (sym d.1) n)) in
    let k = record_value x.0 d.0.context is_closed h in
    let q : Request = record { principal = p.0; action = a.0; resource = o.0; context = k.0 } in
    let g : r ≡ as_open q = e ∙ ap (λ v. record w { context = Some v }) k.1 in
    (q, g, good_request s q (subst (IsFaultless s) g c))

good_request_conforms : (s : Schema) (q : Request) (a : Action) → IsGoodFor s q a → IsFaultless s (as_open q)
good_request_conforms s q a g undeclared h = not_there (action_with s q.action) (ap is_some g.action) (is_none (action_with s q.action) h)
  where
    is_none : (o : Option Action) → is_some o ≡ false → o ≡ None
    is_none None h = refl
    is_none (Some b) h = cc
good_request_conforms s q a g not_listed h =
    ⊎_elim (λ n. n g.principal) (λ n. n g.resource)
    (from_found s q a (λ b. IsNotListed b.principals (Some q.principal) ⊎ IsNotListed b.resources (Some q.resource)) g.action h)
good_request_conforms s q a g no_member h = ⊎_elim g.principal_member g.resource_member h
good_request_conforms s q a g context_value h = from_found s q a (λ b. HasType (record_of q.context) (record_type b.context is_closed) → ⊥) g.action h g.context
good_request_conforms s q a g open_part h = ⊎_elim (λ k. ⊎_elim (λ n. cc) (λ n. cc) k) (λ k. ⊎_elim (λ n. cc) (λ n. cc) k) h
good_request_conforms s q a g lacks_attribute h = h
good_request_conforms s q a g undeclared_attribute h = h
good_request_conforms s q a g attribute_value h = h
good_request_conforms s q a g tag h = h
good_request_conforms s q a g ancestor h = h

pub requests_read : (s : Schema) (r : OpenRequest) → RequestConforms s r ↔ IsKnownAndGood s r
requests_read s r = (
  λ c. known_and_good s r (no_request_fault s r c),
  λ k. where_no_request_fault s r (subst (IsFaultless s) (sym k.1) (good_request_conforms s k.0 k.2.0 k.2.1)),
)
