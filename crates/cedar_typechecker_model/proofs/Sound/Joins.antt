-- The strict join of simple types is simple, and has the values of both.
use Rattle.std.proofs.Common.{◌≡◌, List, [], ◌∷◌, Bool, true, false, ◌&&◌, Option, Some, None, option_map, refl, sym, ap, ◌∙◌, subst, Contains}
use Rattle.std.specs.Prelude.{is_none, is_some}
use Rattle.std.specs.Str.{bytes_eq}
use Rattle.std.specs.Ordering.{match_ordering}
use Rattle.std.proofs.lemmas.Cmp.{tied_itself}
use Rattle.std.proofs.lemmas.Slice.Eq.{bytes_eq-Decides}
use Rattle.cedar_expr_model.specs.Name.{Text, Name, name_eq}
use Rattle.cedar_expr_model.proofs.Equality.{name_eq-Decides}
use Rattle.cedar_expr_model.proofs.Lists.{both_hold, hold_both, contains_head, contains_tail, contains_cases, contains_none}
use Rattle.cedar_expr_model.specs.Value.{V, Vs, no_values, value, Fields, no_fields, field, field_of}
use Rattle.cedar_schema_model.specs.Types.{BoolType, any_bool, only_true, only_false, Openness, is_open, is_closed, Ty, never, bool_type, long_type, string_type, any_entity, entity_types, entity_type, any_set, set_type, record_type, extension_type, Attributes, no_attributes, attribute, Declared, attribute_named, strict}
use Rattle.cedar_schema_model.specs.Subtype.{are_among, are_named}
use Rattle.cedar_schema_model.specs.HasType.{is_of_bool, FieldFits, HasRequired, HasType, HaveType, FieldsFit}
use Rattle.cedar_schema_model.specs.Join.{bool_join, names_of_both, joined_with, kept_attribute, join, attributes_join, reduce_to_join}
use Rattle.cedar_schema_model.proofs.Named.{join_all}
use Rattle.cedar_schema_model.proofs.Types.Lookups.{no_none, inside, test_cases, named_first, named_later, named_cases, Parts, each_type}
use Rattle.cedar_schema_model.proofs.Types.Names.{among_at, name_order}
use Rattle.cedar_schema_model.proofs.Types.Subtypes.{named_at}
use Rattle.cedar_schema_model.proofs.Types.JoinParts.{given_if, declared_join, Joint, joint}
use Rattle.cedar_schema_model.proofs.Types.JoinAbove.{allowed, opened, strict_allowed}
use Rattle.cedar_schema_model.proofs.Types.Values.{required_at, field_some, never_empty}
use Rattle.cedar_typechecker_model.specs.OfLaws.Simple.{is_alone, is_simple, are_simple}
use Rattle.cedar_typechecker_model.proofs.Sound.Shapes.{bool_value, set_value, record_value}

-- The join is simple, and each value of either side is one of it.
pub record Kept (a b j : Ty) : Type 0 where
  pub simple : is_simple j ≡ true
  pub first : (v : V) → HasType v a → HasType v j
  pub second : (v : V) → HasType v b → HasType v j

abbrev pub Keeps : Ty → Type 0
Keeps a = (b j : Ty) → is_simple a ≡ true → is_simple b ≡ true → join strict a b ≡ Some j → Kept a b j

-- no attribute
pub is_nothing : {A : Type 0} (o : Option A) → is_none o ≡ true → o ≡ None
is_nothing None h = refl
is_nothing (Some a) h = cc

nothing_is : {A : Type 0} (o : Option A) → o ≡ None → is_none o ≡ true
nothing_is o h = ap is_none h

pub simple_parts : (n : Text) (t : Ty) (r : Bool) (as_ : Attributes) → are_simple (attribute n t r as_) ≡ true → (is_simple t ≡ true) × (attribute_named n as_ ≡ None) × (are_simple as_ ≡ true)
simple_parts n t r as_ h =
    let p = both_hold (is_simple t) (is_none (attribute_named n as_) && are_simple as_) h in
    let q = both_hold (is_none (attribute_named n as_)) (are_simple as_) p.1 in
    (p.0, is_nothing (attribute_named n as_) q.0, q.1)

pub simple_at : (as_ : Attributes) → are_simple as_ ≡ true → (n : Text) (d : Declared) → attribute_named n as_ ≡ Some d → is_simple d.type ≡ true
simple_at no_attributes h n d e = no_none e
simple_at (attribute b t r as_) h n d e =
    let p = simple_parts b t r as_ h in
    named_cases n b t r as_ d e (λ q k. subst (λ (x : Declared). is_simple x.type ≡ true) k p.0) (λ q k. simple_at as_ p.2 n d k)

-- the others are found behind the first too
pub still_there : (n b : Text) (t : Ty) (r : Bool) (as_ : Attributes) (d : Declared) → attribute_named b as_ ≡ None → attribute_named n as_ ≡ Some d → attribute_named n (attribute b t r as_) ≡ Some d
still_there n b t r as_ d h e =
    test_cases (bytes_eq n b)
    (λ q. no_none (sym h ∙ subst (λ x. attribute_named x as_ ≡ Some d) ((bytes_eq-Decides n b).0 q) e))
    (λ q. named_later n b t r as_ q ∙ e)

-- a record has the required attributes where each that is found is there
pub required_from : (as_ : Attributes) (fs : Fields) → are_simple as_ ≡ true → ((n : Text) (d : Declared) → attribute_named n as_ ≡ Some d → d.is_required ≡ true → is_some (field_of n fs) ≡ true) → HasRequired as_ fs
required_from no_attributes fs h f = tt
required_from (attribute b t r as_) fs h f =
    let p = simple_parts b t r as_ h in
    (λ e. f b (record { type = t; is_required = r }) (named_first b t r as_) e, required_from as_ fs p.2 (λ n d k. f n d (still_there n b t r as_ d p.1 k)))

-- look-ups in a join
kept_first : (b : Text) (j : Option Declared) (js : Attributes) → attribute_named b js ≡ None → attribute_named b (kept_attribute b j js) ≡ j
kept_first b None js h = h
kept_first b (Some d) js h = named_first b d.type d.is_required js

kept_later : (n b : Text) (j : Option Declared) (js : Attributes) → bytes_eq n b ≡ false → attribute_named n (kept_attribute b j js) ≡ attribute_named n js
kept_later n b None js h = refl
kept_later n b (Some d) js h = named_later n b d.type d.is_required js h

pub join_found : (as_ bs : Attributes) → are_simple as_ ≡ true → (n : Text) → attribute_named n (attributes_join strict as_ bs) ≡ declared_join strict (attribute_named n as_) (attribute_named n bs)
join_found no_attributes bs h n = refl
join_found (attribute b t r as_) bs h n =
    let p = simple_parts b t r as_ h in
    let j = joined_with strict r (join strict t) (attribute_named b bs) in
    let js = attributes_join strict as_ bs in
    let none : attribute_named b js ≡ None = join_found as_ bs p.2 b ∙ ap (λ x. declared_join strict x (attribute_named b bs)) p.1 in
    test_cases (bytes_eq n b)
    (λ e. subst (λ x. attribute_named x (kept_attribute b j js) ≡ declared_join strict (attribute_named x (attribute b t r as_)) (attribute_named x bs)) (sym ((bytes_eq-Decides n b).0 e))
    (kept_first b j js none ∙ sym (ap (λ x. declared_join strict x (attribute_named b bs)) (named_first b t r as_))))
    (λ e. kept_later n b j js e ∙ (join_found as_ bs p.2 n ∙ sym (ap (λ x. declared_join strict x (attribute_named n bs)) (named_later n b t r as_ e))))

kept_simple : (b : Text) (j : Option Declared) (js : Attributes) → ((d : Declared) → j ≡ Some d → is_simple d.type ≡ true) → attribute_named b js ≡ None → are_simple js ≡ true → are_simple (kept_attribute b j js) ≡ true
kept_simple b None js h e k = k
kept_simple b (Some d) js h e k = hold_both (is_simple d.type) _ (h d refl) (hold_both (is_none (attribute_named b js)) _ (nothing_is (attribute_named b js) e) k)

-- two records, by what is found in both
module _ (as_ bs : Attributes) (parts : (n : Text) (d : Declared) → attribute_named n as_ ≡ Some d → Keeps d.type) (g : are_simple as_ ≡ true) (h : are_simple bs ≡ true) where
  both_found : (n : Text) (e : Declared) → attribute_named n (attributes_join strict as_ bs) ≡ Some e → Joint strict (attribute_named n as_) (attribute_named n bs) e
  both_found n e k = joint strict (attribute_named n as_) (attribute_named n bs) e (sym (join_found as_ bs g n) ∙ k)

  kept_type : (n : Text) (e : Declared) → (k : Joint strict (attribute_named n as_) (attribute_named n bs) e) → Kept k.first.type k.second.type e.type
  kept_type n e k = parts n k.first k.first_is k.second.type e.type (simple_at as_ g n k.first k.first_is) (simple_at bs h n k.second k.second_is) k.types

  pub attributes_simple : (cs : Attributes) → are_simple cs ≡ true → ((n : Text) (d : Declared) → attribute_named n cs ≡ Some d → Keeps d.type) → are_simple (attributes_join strict cs bs) ≡ true
  attributes_simple no_attributes k ps = refl
  attributes_simple (attribute b t r cs) k ps =
      let p = simple_parts b t r cs k in
      let js = attributes_join strict cs bs in
      kept_simple b (joined_with strict r (join strict t) (attribute_named b bs)) js
      (λ d e. let q = joint strict (Some (record { type = t; is_required = r })) (attribute_named b bs) d e in
      let s : q.first.type ≡ t = ap (λ (x : Declared). x.type) (sym (inside q.first_is)) in
      (ps b (record { type = t; is_required = r }) (named_first b t r cs) q.second.type d.type p.0 (simple_at bs h b q.second q.second_is) (subst (λ x. join strict x q.second.type ≡ Some d.type) s q.types)).simple)
      (join_found cs bs p.2 b ∙ ap (λ x. declared_join strict x (attribute_named b bs)) p.1)
      (attributes_simple cs p.2 (λ n d e. ps n d (still_there n b t r cs d p.1 e)))

  -- the required attributes are those of either side
  first_required : (fs : Fields) → HasRequired as_ fs → HasRequired (attributes_join strict as_ bs) fs
  first_required fs k =
      required_from (attributes_join strict as_ bs) fs (attributes_simple as_ g parts)
      (λ n e q r. let j = both_found n e q in required_at as_ fs k n j.first j.first_is (both_hold _ _ (j.required ∙ r)).0)

  second_required : (fs : Fields) → HasRequired bs fs → HasRequired (attributes_join strict as_ bs) fs
  second_required fs k =
      required_from (attributes_join strict as_ bs) fs (attributes_simple as_ g parts)
      (λ n e q r. let j = both_found n e q in required_at bs fs k n j.second j.second_is (both_hold _ _ (j.required ∙ r)).1)

  -- a field that fits a side, whose names all stayed, fits the join
  fits_join : (o : Openness) (side : Option Declared) (found : Option Declared) (v : V) → ((d : Declared) → side ≡ Some d → (e : Declared) × (found ≡ Some e)) → ((e : Declared) → found ≡ Some e → (d : Declared) × (side ≡ Some d) × (HasType v d.type → HasType v e.type)) → FieldFits o (HasType v) side → FieldFits o (HasType v) found
  fits_join o side (Some e) v stays kept k = let d = kept e refl in d.2 (field_some (HasType v) o side d.0 d.1 k)
  fits_join is_open side None v stays kept k = tt
  fits_join is_closed None None v stays kept k = k
  fits_join is_closed (Some d) None v stays kept k = no_none (stays d refl).1

  first_fits : (o : Openness) (fs : Fields) → are_named as_ (attributes_join strict as_ bs) ≡ true → FieldsFit as_ o fs → FieldsFit (attributes_join strict as_ bs) o fs
  first_fits o no_fields s k = tt
  first_fits o (field n v fs) s k = (
    fits_join o (attribute_named n as_) (attribute_named n (attributes_join strict as_ bs)) v (named_at as_ (attributes_join strict as_ bs) s n)
        (λ e q. let j = both_found n e q in (j.first, j.first_is, (kept_type n e j).first v)) k.0,
    first_fits o fs s k.1,
  )

  second_fits : (o : Openness) (fs : Fields) → are_named bs (attributes_join strict as_ bs) ≡ true → FieldsFit bs o fs → FieldsFit (attributes_join strict as_ bs) o fs
  second_fits o no_fields s k = tt
  second_fits o (field n v fs) s k = (
    fits_join o (attribute_named n bs) (attribute_named n (attributes_join strict as_ bs)) v (named_at bs (attributes_join strict as_ bs) s n)
        (λ e q. let j = both_found n e q in (j.second, j.second_is, (kept_type n e j).second v)) k.0,
    second_fits o fs s k.1,
  )

  pub record_kept : (o p : Openness) (j : Ty) → join strict (record_type as_ o) (record_type bs p) ≡ Some j → Kept (record_type as_ o) (record_type bs p) j
  record_kept o p j e =
      let js = attributes_join strict as_ bs in
      let t = given_if (allowed strict as_ o bs p js) (record_type js (opened as_ o bs p js)) j e in
      let a = strict_allowed as_ o bs p js t.0 in
      subst (Kept (record_type as_ o) (record_type bs p)) t.1
      (record {
        simple = attributes_simple as_ g parts;
        first = λ v k. (
            let r = record_value as_ o v k in
            subst (λ x. HasType x (record_type js (opened as_ o bs p js))) (sym r.1) (first_required r.0 r.2, subst (λ x. FieldsFit js x r.0) (sym a.0) (first_fits o r.0 a.2 r.3)));
        second = λ v k. (
            let r = record_value bs p v k in
            subst (λ x. HasType x (record_type js (opened as_ o bs p js))) (sym r.1) (second_required r.0 r.2, subst (λ x. FieldsFit js x r.0) (sym a.1) (second_fits p r.0 a.3 r.3)));
      })

-- A type is kept on both sides, if it is simple and each value of either side has it.
kept_both : (a b j : Ty) → is_simple j ≡ true → ((v : V) → HasType v a → HasType v j) → ((v : V) → HasType v b → HasType v j) → Kept a b j
kept_both a b j s f g = record { simple = s; first = f; second = g }

kept_right : (a b j : Ty) → is_simple b ≡ true → Some b ≡ Some j → ((v : V) → HasType v a → HasType v b) → Kept a b j
kept_right a b j s e f = subst (Kept a b) (inside e) (kept_both a b b s f (λ v h. h))

kept_left : (a b j : Ty) → is_simple a ≡ true → Some a ≡ Some j → ((v : V) → HasType v b → HasType v a) → Kept a b j
kept_left a b j s e f = subst (Kept a b) (inside e) (kept_both a b a s (λ v h. h) f)

bool_in : (x y : BoolType) (c : Bool) → is_of_bool x c ≡ true → is_of_bool (bool_join x y) c ≡ true
bool_in any_bool y c h = refl
bool_in only_true only_true c h = h
bool_in only_true any_bool c h = refl
bool_in only_true only_false c h = refl
bool_in only_false only_false c h = h
bool_in only_false any_bool c h = refl
bool_in only_false only_true c h = refl

bool_in_too : (x y : BoolType) (c : Bool) → is_of_bool y c ≡ true → is_of_bool (bool_join x y) c ≡ true
bool_in_too any_bool y c h = refl
bool_in_too only_true only_true c h = h
bool_in_too only_true any_bool c h = refl
bool_in_too only_true only_false c h = refl
bool_in_too only_false only_false c h = h
bool_in_too only_false any_bool c h = refl
bool_in_too only_false only_true c h = refl

kept_bool : (x y : BoolType) → Kept (bool_type x) (bool_type y) (bool_type (bool_join x y))
kept_bool x y =
    record {
      simple = refl;
      first = λ v h. (let k = bool_value x v h in subst (λ z. HasType z (bool_type (bool_join x y))) (sym k.1) (bool_in x y k.0 k.2));
      second = λ v h. (let k = bool_value y v h in subst (λ z. HasType z (bool_type (bool_join x y))) (sym k.1) (bool_in_too x y k.0 k.2));
    }

-- one entity type and the same
one_alone : {A : Type 0} (a b : A) → Contains (a ∷ []) b → a ≡ b
one_alone a b h = contains_cases (a ≡ b) a [] b h (λ e. e) (λ k. absurd (contains_none b k))

same_entity : (ns ms : List Name) → is_alone ns ≡ true → is_alone ms ≡ true → are_among ns ms ≡ true → (n : Name) × (ns ≡ n ∷ []) × (ms ≡ n ∷ [])
same_entity (n ∷ []) (m ∷ []) v w h = let e = one_alone m n (among_at (n ∷ []) (m ∷ []) h n (contains_head n [])) in (n, refl, λ i. e i ∷ [])
same_entity (n ∷ k ∷ ns) ms v w h = cc
same_entity (n ∷ []) (m ∷ k ∷ ms) v w h = cc
same_entity (n ∷ []) [] v w h = cc
same_entity [] ms v w h = cc

both_alone : (n : Name) → names_of_both (n ∷ []) (n ∷ []) ≡ n ∷ []
both_alone n = ap (λ o. match_ordering o (n ∷ n ∷ []) (n ∷ []) (n ∷ n ∷ [])) (tied_itself name_order n)

kept_union : (ns ms : List Name) (j : Ty) → is_alone ns ≡ true → is_alone ms ≡ true → join strict (entity_types ns) (entity_types ms) ≡ Some j → Kept (entity_types ns) (entity_types ms) j
kept_union ns ms j v w e =
    let g = given_if (are_among ns ms && are_among ms ns) (entity_types (names_of_both ns ms)) j e in
    let s = same_entity ns ms v w (both_hold (are_among ns ms) (are_among ms ns) g.0).0 in
    let q : j ≡ entity_type s.0 = sym g.1 ∙ (λ i. entity_types (names_of_both (s.1 i) (s.2 i))) ∙ ap entity_types (both_alone s.0) in
    let one : Kept (entity_type s.0) (entity_type s.0) (entity_type s.0) = kept_both _ _ _ refl (λ v h. h) (λ v h. h) in
    subst (Kept (entity_types ns) (entity_types ms)) (sym q) (subst (λ x. Kept (entity_types ns) (entity_types x) (entity_type s.0)) (sym s.2) (subst (λ x. Kept (entity_types x) (entity_type s.0) (entity_type s.0)) (sym s.1) one))

-- sets
have_kept : (t u : Ty) → ((v : V) → HasType v t → HasType v u) → (vs : Vs) → HaveType vs t → HaveType vs u
have_kept t u f no_values h = tt
have_kept t u f (value v vs) h = (f v h.0, have_kept t u f vs h.1)

set_in : (t u : Ty) → ((v : V) → HasType v t → HasType v u) → (v : V) → HasType v (set_type t) → HasType v (set_type u)
set_in t u f v h = let k = set_value t v h in subst (λ z. HasType z (set_type u)) (sym k.1) (have_kept t u f k.0 k.2)

kept_set : (t u : Ty) (o : Option Ty) (j : Ty) → ((k : Ty) → o ≡ Some k → Kept t u k) → option_map set_type o ≡ Some j → Kept (set_type t) (set_type u) j
kept_set t u None j h e = cc
kept_set t u (Some k) j h e =
    let s = h k refl in
    subst (Kept (set_type t) (set_type u)) (inside e) (record { simple = s.simple; first = set_in t k s.first; second = set_in u k s.second })

-- a value of no type at all is of any
of_never : (b : Ty) (v : V) → HasType v never → HasType v b
of_never b v h = absurd (never_empty v h)

any_set_value : (v : V) (t : Ty) → HasType v (set_type t) → HasType v any_set
any_set_value v t h = let k = set_value t v h in subst (λ z. HasType z any_set) (sym k.1) tt

keeps_step : (a : Ty) → Parts Keeps a → Keeps a
keeps_step never p b j v w e = kept_right never b j w e (of_never b)
keeps_step a p never j v w e = kept_left a never j v e (of_never a)
keeps_step (bool_type x) p (bool_type y) j v w e = subst (Kept (bool_type x) (bool_type y)) (inside e) (kept_bool x y)
keeps_step long_type p long_type j v w e = kept_left long_type long_type j v e (λ u h. h)
keeps_step string_type p string_type j v w e = kept_left string_type string_type j v e (λ u h. h)
keeps_step any_entity p any_entity j v w e = kept_left any_entity any_entity j v e (λ u h. h)
keeps_step (entity_types ns) p (entity_types ms) j v w e = kept_union ns ms j v w e
keeps_step any_set p any_set j v w e = kept_left any_set any_set j v e (λ u h. h)
keeps_step any_set p (set_type b) j v w e = kept_left any_set (set_type b) j v e (λ u h. any_set_value u b h)
keeps_step (set_type a) p any_set j v w e = kept_right (set_type a) any_set j w e (λ u h. any_set_value u a h)
keeps_step (set_type a) p (set_type b) j v w e = kept_set a b (join strict a b) j (λ k q. p b k v w q) e
keeps_step (record_type as_ o) p (record_type bs q) j v w e = record_kept as_ bs p v w o q j e
keeps_step (extension_type k) p (extension_type n) j v w e =
    let g = given_if (name_eq k n) (extension_type k) j e in
    let s = (name_eq-Decides k n).0 g.0 in
    kept_left (extension_type k) (extension_type n) j v (ap Some g.1) (λ u h. subst (λ z. HasType u (extension_type z)) (sym s) h)
keeps_step a p b j v w e = cc

pub join_keeps : (a : Ty) → Keeps a
join_keeps = each_type Keeps keeps_step

-- several types, one after the other: each value of one of them is a value of the join
abbrev pub AreSimple : List Ty → Type 0
AreSimple ts = (t : Ty) → Contains ts t → is_simple t ≡ true

pub record KeptAll (ts : List Ty) (j : Ty) : Type 0 where
  pub simple : is_simple j ≡ true
  pub each : (t : Ty) → Contains ts t → (v : V) → HasType v t → HasType v j

none_stays : (us : List Ty) (j : Ty) → join_all strict None us ≡ Some j → ⊥
none_stays [] j e = cc
none_stays (u ∷ us) j e = none_stays us j e

some_join : (o : Option Ty) (us : List Ty) (j : Ty) → join_all strict o us ≡ Some j → (k : Ty) × (o ≡ Some k) × (join_all strict (Some k) us ≡ Some j)
some_join None us j e = absurd (none_stays us j e)
some_join (Some k) us j e = (k, refl, e)

kept_all : (ts : List Ty) (t j : Ty) → is_simple t ≡ true → AreSimple ts → join_all strict (Some t) ts ≡ Some j → ((v : V) → HasType v t → HasType v j) × KeptAll ts j
kept_all [] t j w s e =
    let q : t ≡ j = inside e in
    (λ v h. subst (HasType v) q h, record { simple = subst (λ x. is_simple x ≡ true) q w; each = λ u i v h. absurd (contains_none u i) })
kept_all (u ∷ us) t j w s e =
    let f = some_join (join strict t u) us j e in
    let k = join_keeps t u f.0 w (s u (contains_head u us)) f.1 in
    let r = kept_all us f.0 j k.simple (λ x i. s x (contains_tail u us x i)) f.2 in
    let rest = r.1 in (
      λ v h. r.0 v (k.first v h),
      record {
        simple = rest.simple;
        each = λ x i v h. contains_cases (HasType v j) u us x i (λ q. r.0 v (k.second v (subst (HasType v) (sym q) h))) (λ n. rest.each x n v h);
      },
    )

pub reduction_keeps : (ts : List Ty) (j : Ty) → AreSimple ts → reduce_to_join strict ts ≡ Some j → KeptAll ts j
reduction_keeps ts j s e = (kept_all ts never j refl s e).1
