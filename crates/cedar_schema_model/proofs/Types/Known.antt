-- What a type knows of an attribute.
use Rattle.std.proofs.Common.{◌≡◌, List, [], ◌∷◌, map, Bool, true, false, cond, Option, Some, None, is_some, option_map, option_and_then, MatchOption, Contains, refl, sym, ap, ◌∙◌, subst, true≢false}
use Rattle.std.specs.List.{list_all}
use Rattle.cedar_expr_model.specs.Name.{Text, Name}
use Rattle.std.specs.Str.{bytes_eq}
use Rattle.std.proofs.lemmas.Slice.Eq.{bytes_eq-Decides}
use Rattle.cedar_expr_model.specs.Value.{V, record_of, Fields, no_fields, field, field_of}
use Rattle.cedar_expr_model.proofs.Lists.{all_each, all_from, any_has, map_has, map_from, contains_head, contains_tail, contains_cases, contains_none}
use Rattle.cedar_schema_model.specs.Types.{Openness, is_open, is_closed, Ty, any_entity, entity_types, record_type, Attributes, Declared, attribute_named, permissive}
use Rattle.cedar_schema_model.specs.Schema.{Schema}
use Rattle.cedar_schema_model.specs.OfLaws.Formed.{Below, is_well_formed_type}
use Rattle.cedar_schema_model.specs.TypeLaws.{has_no_any_set}
use Rattle.cedar_schema_model.specs.HasType.{HasType, HasRequired, FieldsFit, FieldFits}
use Rattle.cedar_schema_model.specs.Join.{reduce_to_join}
use Rattle.cedar_schema_model.proofs.Named.{all_declared}
use Rattle.cedar_schema_model.specs.Lookup.{declared_of, declared_by_all, lookup_attribute, may_have_attribute}
use Rattle.cedar_schema_model.specs.TypeLaws.{HasPlainAttributes, DeclaredBelow}
use Rattle.cedar_schema_model.proofs.Types.Lookups.{no_lie, no_none, inside, from_some, some_is, test_cases, declares}
use Rattle.cedar_schema_model.proofs.Types.Names.{among_at}
use Rattle.cedar_schema_model.proofs.Types.Values.{required_at, field_some}
use Rattle.cedar_schema_model.proofs.Types.Reduction.{reduction_above, reduction_least, reduction_free}

abbrev type_of : Declared → Ty
type_of d = d.type

abbrev required_of : Declared → Bool
required_of d = d.is_required

-- what all declare
abbrev Holds : Schema → Text → List Name → List Declared → Type 0
Holds s a ns ds = (d : Declared) → Contains ds d → (n : Name) × Contains ns n × (declared_of s a n ≡ Some d)

abbrev Declares : Schema → Text → List Name → List Declared → Type 0
Declares s a ns ds = (n : Name) → Contains ns n → (d : Declared) × Contains ds d × (declared_of s a n ≡ Some d)

abbrev with_declared : Option Declared → Option (List Declared) → Option (List Declared)
with_declared x o = option_and_then (λ d. option_map (λ ds. d ∷ ds) o) x

with_parts : (x : Option Declared) (o : Option (List Declared)) (ds : List Declared) → with_declared x o ≡ Some ds → (d : Declared) × (es : List Declared) × (x ≡ Some d) × (o ≡ Some es) × (ds ≡ (d ∷ es))
with_parts None o ds h = no_none h
with_parts (Some d) None ds h = no_none h
with_parts (Some d) (Some es) ds h = (d, es, refl, refl, sym (inside h))

all_from_names : (s : Schema) (a : Text) (ns : List Name) (ds : List Declared) → all_declared s a ns ≡ Some ds → Declares s a ns ds × Holds s a ns ds
all_from_names s a [] ds h = (λ n k. absurd (contains_none n k), λ d k. absurd (contains_none d (subst (λ x. Contains x d) (sym (inside h)) k)))
all_from_names s a (m ∷ ms) ds h =
    let p = with_parts (declared_of s a m) (all_declared s a ms) ds h in
    let c = p.0 in
    let es = p.1 in
    let r = all_from_names s a ms es p.3 in
    let into : (d : Declared) → Contains (c ∷ es) d → Contains ds d = λ d k. subst (λ x. Contains x d) (sym p.4) k in (
      λ n k. contains_cases ((d : Declared) × Contains ds d × (declared_of s a n ≡ Some d)) m ms n k
          (λ e. (c, into c (contains_head c es), subst (λ x. declared_of s a x ≡ Some c) e p.2))
          (λ i. let f = r.0 n i in (f.0, into f.0 (contains_tail c es f.0 f.1), f.2)),
      λ d k. contains_cases ((n : Name) × Contains (m ∷ ms) n × (declared_of s a n ≡ Some d)) c es d (subst (λ x. Contains x d) p.4 k)
          (λ e. (m, contains_head m ms, p.2 ∙ ap Some e))
          (λ i. let f = r.1 d i in (f.0, contains_tail m ms f.0 f.1, f.2)),
    )

all_found : (s : Schema) (a : Text) (ns : List Name) → ((n : Name) → Contains ns n → (d : Declared) × (declared_of s a n ≡ Some d)) → (ds : List Declared) × (all_declared s a ns ≡ Some ds)
all_found s a [] h = ([], refl)
all_found s a (m ∷ ms) h =
    let f = h m (contains_head m ms) in
    let r = all_found s a ms (λ n k. h n (contains_tail m ms n k)) in
    (f.0 ∷ r.0, λ i. with_declared (f.1 i) (r.1 i))

then_parts : (o : Option (List Declared)) (e : Declared) → option_and_then declared_by_all o ≡ Some e → (ds : List Declared) × (o ≡ Some ds) × (declared_by_all ds ≡ Some e)
then_parts None e h = no_none h
then_parts (Some ds) e h = (ds, refl, h)

made_parts : (r : Bool) (o : Option Ty) (e : Declared) → option_map (λ t. declares t r) o ≡ Some e → (o ≡ Some e.type) × (r ≡ e.is_required)
made_parts r None e h = no_none h
made_parts r (Some t) e h = (ap Some (ap type_of (inside h)), ap required_of (inside h))

types_plain : (s : Schema) (a : Text) (ns : List Name) (ds : List Declared) → HasPlainAttributes s → Holds s a ns ds → list_all is_well_formed_type (map type_of ds) ≡ true
types_plain s a ns ds plain h =
    all_from is_well_formed_type (map type_of ds) (λ t k.
    let f = map_from type_of ds t k in
    let g = h f.0 f.1 in
    subst (λ x. is_well_formed_type x ≡ true) f.2 (plain a g.0 f.0 g.2).0)

-- a union knows what all declare
pub union_knows : (s : Schema) (ns : List Name) (a : Text) (e : Declared) → HasPlainAttributes s → lookup_attribute s (entity_types ns) a ≡ Some e → (n : Name) → Contains ns n → DeclaredBelow (declared_of s a n) e
union_knows s ns a e plain h n k =
    let p = then_parts (all_declared s a ns) e h in
    let ds = p.0 in
    let q = made_parts (list_all required_of ds) (reduce_to_join permissive (map type_of ds)) e p.2 in
    let r = all_from_names s a ns ds p.1 in
    let f = r.0 n k in (
      f.0,
      f.2,
      reduction_above permissive (map type_of ds) e.type (types_plain s a ns ds plain r.1) q.0 f.0.type (map_has type_of ds f.0 f.1),
      λ i. all_each required_of ds (q.1 ∙ i) f.0 f.1,
    )

known_by : (o : Option (List Declared)) (ds : List Declared) (t : Ty) → o ≡ Some ds → reduce_to_join permissive (map type_of ds) ≡ Some t → option_and_then declared_by_all o ≡ Some (declares t (list_all required_of ds))
known_by None ds t e h = no_none e
known_by (Some es) ds t e h = ap declared_by_all (inside e) ∙ ap (option_map (λ u. declares u (list_all required_of ds))) h

pub union_knows_all : (s : Schema) (ns : List Name) (a : Text) (e : Declared) → HasPlainAttributes s → has_no_any_set e.type ≡ true → ((n : Name) → Contains ns n → DeclaredBelow (declared_of s a n) e) → DeclaredBelow (lookup_attribute s (entity_types ns) a) e
union_knows_all s ns a e plain free h =
    let p = all_found s a ns (λ n k. let f = h n k in (f.0, f.1)) in
    let ds = p.0 in
    let r = all_from_names s a ns ds p.1 in
    let below : (t : Ty) → Contains (map type_of ds) t → Below permissive t e.type = λ t k.
    let f = map_from type_of ds t k in
    let g = r.1 f.0 f.1 in
    let b = h g.0 g.1 in
    subst (λ x. Below permissive x e.type) (ap type_of (inside (sym b.1 ∙ g.2)) ∙ f.2) b.2 in
    let j = reduction_least permissive (map type_of ds) e.type (types_plain s a ns ds plain r.1) free below in
    let known = known_by (all_declared s a ns) ds j.0 p.1 j.1 in (
      declares j.0 (list_all required_of ds),
      known,
      j.2,
      λ i. all_from required_of ds (λ d k.
          let g = r.1 d k in
          let b = h g.0 g.1 in
          subst (λ (x : Declared). x.is_required ≡ true) (inside (sym b.1 ∙ g.2)) (b.3 i)),
    )

-- the type of a union is free where the types of the schema are
types_free : (s : Schema) (a : Text) (ns : List Name) (ds : List Declared) → HasPlainAttributes s → Holds s a ns ds → list_all has_no_any_set (map type_of ds) ≡ true
types_free s a ns ds plain h =
    all_from has_no_any_set (map type_of ds) (λ t k.
    let f = map_from type_of ds t k in
    let g = h f.0 f.1 in
    subst (λ x. has_no_any_set x ≡ true) f.2 (plain a g.0 f.0 g.2).1)

pub larger_knows_less : (s : Schema) (ns ms : List Name) (a : Text) (e : Declared) → HasPlainAttributes s → Below permissive (entity_types ns) (entity_types ms) → lookup_attribute s (entity_types ms) a ≡ Some e → DeclaredBelow (lookup_attribute s (entity_types ns) a) e
larger_knows_less s ns ms a e plain h k =
    let p = then_parts (all_declared s a ms) e k in
    let ds = p.0 in
    let q = made_parts (list_all required_of ds) (reduce_to_join permissive (map type_of ds)) e p.2 in
    let r = all_from_names s a ms ds p.1 in
    let free = reduction_free permissive (map type_of ds) e.type (types_free s a ms ds plain r.1) q.0 in
    union_knows_all s ns a e plain free (λ n i. union_knows s ms a e plain k n (among_at ns ms h n i))

-- records
pub field_at : (as_ : Attributes) (o : Openness) (fs : Fields) → FieldsFit as_ o fs → (a : Text) (v : V) → field_of a fs ≡ Some v → FieldFits o (HasType v) (attribute_named a as_)
field_at as_ o no_fields h a v e = no_none e
field_at as_ o (field b u fs) h a v e =
    test_cases (bytes_eq a b)
    (λ q. let n = (bytes_eq-Decides a b).0 q in
    let same : u ≡ v = inside (sym (ap (λ x. cond x (Some u) (field_of a fs)) q) ∙ e) in
    subst (λ x. FieldFits o (HasType v) (attribute_named x as_)) (sym n) (subst (λ x. FieldFits o (HasType x) (attribute_named b as_)) same h.0))
    (λ q. field_at as_ o fs h.1 a v (sym (ap (λ x. cond x (Some u) (field_of a fs)) q) ∙ e))

known_field : (as_ : Attributes) (o : Openness) (fs : Fields) (a : Text) (d : Declared) → HasRequired as_ fs → FieldsFit as_ o fs → attribute_named a as_ ≡ Some d → (x : Option V) → field_of a fs ≡ x → MatchOption x (d.is_required ≡ false) (λ v. HasType v d.type)
known_field as_ o fs a d h k e None q = test_cases d.is_required (λ r. absurd (true≢false (sym (required_at as_ fs h a d e r) ∙ ap is_some q))) (λ r. r)
known_field as_ o fs a d h k e (Some v) q = field_some (HasType v) o (attribute_named a as_) d e (field_at as_ o fs k a v q)

pub record_has : (s : Schema) (t : Ty) (fs : Fields) (a : Text) (d : Declared) → HasType (record_of fs) t → lookup_attribute s t a ≡ Some d → MatchOption (field_of a fs) (d.is_required ≡ false) (λ v. HasType v d.type)
record_has s (record_type as_ o) fs a d h e = known_field as_ o fs a d h.0 h.1 e (field_of a fs) refl
record_has s t fs a d h e = absurd h

pub may_here : (as_ : Attributes) (fs : Fields) (a : Text) (x : Option Declared) (v : V) → FieldFits is_closed (HasType v) x → is_some x ≡ true
may_here as_ fs a None v h = absurd h
may_here as_ fs a (Some d) v h = refl

pub record_may_have : (s : Schema) (t : Ty) (fs : Fields) (a : Text) → HasType (record_of fs) t → is_some (field_of a fs) ≡ true → may_have_attribute s t a ≡ true
record_may_have s (record_type as_ is_open) fs a h e = refl
record_may_have s (record_type as_ is_closed) fs a h e =
    let v = from_some (field_of a fs) e in
    may_here as_ fs a (attribute_named a as_) v.0 (field_at as_ is_closed fs h.1 a v.0 v.1)
record_may_have s t fs a h e = absurd h

pub looked_up_may : (s : Schema) (t : Ty) (a : Text) → is_well_formed_type t ≡ true → is_some (lookup_attribute s t a) ≡ true → may_have_attribute s t a ≡ true
looked_up_may s (record_type as_ is_open) a w h = refl
looked_up_may s (record_type as_ is_closed) a w h = h
looked_up_may s (entity_types []) a w h = no_lie w
looked_up_may s (entity_types (n ∷ ns)) a w h =
    let e = from_some (lookup_attribute s (entity_types (n ∷ ns)) a) h in
    let p = then_parts (all_declared s a (n ∷ ns)) e.0 e.1 in
    let r = all_from_names s a (n ∷ ns) p.0 p.1 in
    let f = r.0 n (contains_head n ns) in
    any_has (λ m. is_some (declared_of s a m)) (n ∷ ns) n (contains_head n ns) (some_is (declared_of s a n) f.0 f.2)
looked_up_may s any_entity a w h = refl
looked_up_may s t a w h = no_lie h
