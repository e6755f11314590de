-- Where all parts have values, a type is below another exactly where its values are values of the other.
use Rattle.std.proofs.Common.{◌≡◌, ◌↔◌, ℕ, suc, ◌+◌, ◌<◌, ◌≤◌, List, [], ◌∷◌, Bool, true, false, cond, Option, Some, None, is_some, Contains, refl, sym, ap, ◌∙◌, subst, is_lt, Less, arith, pos}
use Rattle.std.specs.Ordering.{ordering_then}
use Rattle.std.specs.Str.{bytes_eq}
use Rattle.std.specs.Cmp.{nat_cmp_is}
use Rattle.std.proofs.lemmas.Slice.Eq.{bytes_eq-Decides}
use Rattle.cedar_expr_model.specs.Name.{Text, Name}
use Rattle.cedar_expr_model.specs.Value.{truth, long, text, V, prim, set_of, record_of, extension, no_values, value, no_fields, field}
use Rattle.cedar_expr_model.specs.Order.{text_cmp}
use Rattle.cedar_expr_model.specs.Canonical.{is_canonical}
use Rattle.cedar_expr_model.proofs.Equality.{name_eq-Decides}
use Rattle.cedar_expr_model.proofs.Lists.{hold_both, contains_head, contains_cases, contains_none}
use Rattle.cedar_schema_model.specs.Types.{BoolType, any_bool, only_true, only_false, Openness, is_open, is_closed, Ty, never, bool_type, long_type, string_type, any_entity, entity_types, any_set, set_type, record_type, extension_type, Attributes, no_attributes, attribute, Declared, attribute_named, permissive}
use Rattle.cedar_schema_model.specs.Subtype.{are_named, carries, is_bool_below, is_frame_below, have_below}
use Rattle.cedar_schema_model.specs.OfLaws.Formed.{Below, is_union, is_well_formed_type}
use Rattle.cedar_schema_model.specs.TypeLaws.{is_filled, are_filled}
use Rattle.cedar_schema_model.specs.HasType.{is_of_bool, FieldFits, HasRequired, HasType, FieldsFit}
use Rattle.cedar_schema_model.proofs.Types.Lookups.{no_lie, no_none, inside, from_some, test_cases, same_text, named_cases, each_type, Parts, Formed, formed_at}
use Rattle.cedar_schema_model.proofs.Types.Names.{among_from}
use Rattle.cedar_schema_model.proofs.Types.Subtypes.{have_from, named_from, open_frame, from_closed_frame}
use Rattle.cedar_schema_model.proofs.Types.Values.{required_at, field_some, value_kept}
use Rattle.cedar_schema_model.proofs.Types.Known.{field_at, may_here}
use Rattle.cedar_schema_model.proofs.Types.Samples.{entity_of, plain, sample, built, same_value, with_value, built_field, built_other, field_first, built_has, built_canonical, filled_at, sampled}

-- names and texts that stand nowhere
abbrev head : Text → ℕ
head [] = 0
head (x ∷ xs) = x

abbrev total : List Name → ℕ
total [] = 0
total (n ∷ ns) = head n.base + total ns

in_total : (ns : List Name) (n : Name) → Contains ns n → head n.base ≤ total ns
in_total [] n h = absurd (contains_none n h)
in_total (m ∷ ms) n h =
    contains_cases (head n.base ≤ total (m ∷ ms)) m ms n h
    (λ e. subst (λ (x : Name). head x.base ≤ total (m ∷ ms)) e (omega arith))
    (λ k. let l = in_total ms n k in omega (arith, l))

fresh_name : List Name → Name
fresh_name ns = plain (suc (total ns) ∷ [])

not_listed : (ns : List Name) → Contains ns (plain (suc (total ns) ∷ [])) → ⊥
not_listed ns h = let l = in_total ns (plain (suc (total ns) ∷ [])) h in omega (arith, l)

abbrev heads : Attributes → ℕ
heads no_attributes = 0
heads (attribute b t r as_) = head b + heads as_

in_heads : (as_ : Attributes) (n : Text) (d : Declared) → attribute_named n as_ ≡ Some d → head n ≤ heads as_
in_heads no_attributes n d h = no_none h
in_heads (attribute b t r as_) n d h =
    named_cases n b t r as_ d h
    (λ q e. subst (λ x. head x ≤ heads (attribute b t r as_)) (sym q) (omega arith))
    (λ q e. let l = in_heads as_ n d e in omega (arith, l))

text_below : (n : Text) (z : ℕ) → head n < z → text_cmp n (z ∷ []) ≡ Less
text_below [] z h = refl
text_below (x ∷ xs) z h = ap (λ o. ordering_then o (text_cmp xs [])) (sym (nat_cmp_is x z Less h))

not_declared : (as_ : Attributes) (z : ℕ) → heads as_ < z → (x : Option Declared) → attribute_named (z ∷ []) as_ ≡ x → x ≡ None
not_declared as_ z h None e = refl
not_declared as_ z h (Some d) e = let l = in_heads as_ (z ∷ []) d e in absurd (omega (arith, h, l))

-- the values of the one are values of the other
abbrev Inside : Ty → Ty → Type 0
Inside a b = (v : V) → is_canonical v ≡ true → HasType v a → HasType v b

abbrev Included : Ty → Type 0
Included a = (b : Ty) → is_well_formed_type a ≡ true → is_well_formed_type b ≡ true → is_filled a ≡ true → is_filled b ≡ true → Inside a b → Below permissive a b

bool_included : (x y : BoolType) → ((c : Bool) → is_of_bool x c ≡ true → is_of_bool y c ≡ true) → is_bool_below x y ≡ true
bool_included x any_bool h = refl
bool_included only_true only_true h = refl
bool_included only_false only_false h = refl
bool_included any_bool only_true h = h false refl
bool_included any_bool only_false h = h true refl
bool_included only_true only_false h = h true refl
bool_included only_false only_true h = h false refl

no_member : (ns : List Name) → is_union ns ≡ true → ((n : Name) → Contains ns n → ⊥) → ⊥
no_member [] w h = no_lie w
no_member (n ∷ ns) w h = h n (contains_head n ns)

-- a value that isn't of the type
abbrev outsider : Ty → V
outsider long_type = prim (text [])
outsider t = prim (long (pos 0))

outside : (t : Ty) → HasType (outsider t) t → ⊥
outside long_type h = h
outside never h = h
outside (bool_type b) h = h
outside string_type h = h
outside any_entity h = h
outside (entity_types ns) h = h
outside any_set h = h
outside (set_type t) h = h
outside (record_type as_ o) h = h
outside (extension_type n) h = h

outsider_canonical : (t : Ty) → is_canonical (outsider t) ≡ true
outsider_canonical never = refl
outsider_canonical (bool_type b) = refl
outsider_canonical long_type = refl
outsider_canonical string_type = refl
outsider_canonical any_entity = refl
outsider_canonical (entity_types ns) = refl
outsider_canonical any_set = refl
outsider_canonical (set_type t) = refl
outsider_canonical (record_type as_ o) = refl
outsider_canonical (extension_type n) = refl

one_canonical : (v : V) → is_canonical v ≡ true → is_canonical (set_of (value v no_values)) ≡ true
one_canonical v h = hold_both (is_canonical v) true h refl

carries_from : (x y : Bool) → x ≡ true → carries permissive x y ≡ true
carries_from true true e = refl
carries_from true false e = refl
carries_from false y e = no_lie e

-- records
module _ (as_ : Attributes) (o : Openness) (bs : Attributes) (p : Openness) (v : Formed as_) (w : Formed bs) (f : are_filled as_ ≡ true) (g : are_filled bs ≡ true) (inc : Inside (record_type as_ o) (record_type bs p)) where
  of_sample : (n : Text) (d : Declared) → attribute_named n as_ ≡ Some d → HasType (sample d.type) d.type × (is_canonical (sample d.type) ≡ true)
  of_sample n d e = sampled d.type (formed_at as_ v n d e) (filled_at as_ f n d e).1

  given_fields : HasRequired bs (built same_value as_ no_fields) × FieldsFit bs p (built same_value as_ no_fields)
  given_fields =
      inc (record_of (built same_value as_ no_fields))
      (built_canonical same_value as_ no_fields (λ n d e. ((of_sample n d e).1, refl)) v refl)
      (built_has same_value o as_ no_fields (λ n d e. (of_sample n d e).0) v tt)

  declared_at : (n : Text) (e : Declared) → attribute_named n bs ≡ Some e → (x : Option Declared) → attribute_named n as_ ≡ x → (d : Declared) × (attribute_named n as_ ≡ Some d)
  declared_at n e h (Some d) q = (d, q)
  declared_at n e h None q =
      let r = required_at bs (built same_value as_ no_fields) given_fields.0 n e h (filled_at bs g n e h).0 in
      no_lie (sym (ap is_some (built_other same_value as_ no_fields n q)) ∙ r)

  -- a record with another value at one name
  module _ (n : Text) (d : Declared) (h : attribute_named n as_ ≡ Some d) (x : V) (canonical : is_canonical x ≡ true) (has : HasType x d.type) where
    changed : (k : Text) (c : Declared) → attribute_named k as_ ≡ Some c → HasType (with_value n x k (sample c.type)) c.type × (is_canonical (with_value n x k (sample c.type)) ≡ true)
    changed k c q =
        let P : V → Type 0 = λ y. HasType y c.type × (is_canonical y ≡ true) in
        test_cases (bytes_eq n k)
        (λ e. let same : d ≡ c = inside (sym h ∙ subst (λ y. attribute_named y as_ ≡ Some c) (sym ((bytes_eq-Decides n k).0 e)) q) in
        subst P (sym (ap (λ t. cond t x (sample c.type)) e)) (subst (λ (y : Declared). HasType x y.type × (is_canonical x ≡ true)) same (has, canonical)))
        (λ e. subst P (sym (ap (λ t. cond t x (sample c.type)) e)) (of_sample k c q))

    changed_fits : FieldFits p (HasType x) (attribute_named n bs)
    changed_fits =
        let fs = built (with_value n x) as_ no_fields in
        let r = inc (record_of fs)
        (built_canonical (with_value n x) as_ no_fields (λ k c q. ((changed k c q).1, refl)) v refl)
        (built_has (with_value n x) o as_ no_fields (λ k c q. (changed k c q).0) v tt) in
        field_at bs p fs r.1 n x (built_field (with_value n x) as_ no_fields n d h ∙ ap (λ t. Some (cond t x (sample d.type))) (same_text n))

  included_have : ((n : Text) (d : Declared) → attribute_named n as_ ≡ Some d → Included d.type) → have_below permissive as_ bs ≡ true
  included_have parts = have_from permissive as_ bs w (λ n e h.
      let k = declared_at n e h (attribute_named n as_) refl in
      let d = k.0 in
      let a = filled_at as_ f n d k.1 in
      let b = filled_at bs g n e h in (
        d,
        k.1,
        parts n d k.1 e.type (formed_at as_ v n d k.1) (formed_at bs w n e h) a.1 b.1 (λ x c has. field_some (HasType x) p (attribute_named n bs) e h (changed_fits n d k.1 x c has)),
        carries_from d.is_required e.is_required a.0,
      ))

  included_names : p ≡ is_closed → are_named as_ bs ≡ true
  included_names e = named_from as_ bs v (λ n d q.
      let fs = built same_value as_ no_fields in
      let x = sample d.type in
      let r = subst (λ y. FieldFits y (HasType x) (attribute_named n bs)) e (field_at bs p fs given_fields.1 n x (built_field same_value as_ no_fields n d q)) in
      from_some (attribute_named n bs) (may_here bs fs n (attribute_named n bs) x r))

-- an open record has values with any other field
wide : (as_ bs : Attributes) → Formed as_ → are_filled as_ ≡ true → Inside (record_type as_ is_open) (record_type bs is_closed) → ⊥
wide as_ bs v f inc =
    let n = suc (heads as_ + heads bs) in
    let z = n ∷ [] in
    let x = prim (long (pos 0)) in
    let tail = field z x no_fields in
    let fs = built same_value as_ tail in
    let no_a = not_declared as_ n (omega arith) (attribute_named z as_) refl in
    let no_b = not_declared bs n (omega arith) (attribute_named z bs) refl in
    let fits : FieldsFit as_ is_open tail = (subst (FieldFits is_open (HasType x)) (sym no_a) tt, tt) in
    let r = inc (record_of fs)
    (built_canonical same_value as_ tail (λ k d e. ((sampled d.type (formed_at as_ v k d e) (filled_at as_ f k d e).1).1, ap is_lt (text_below k n (let l = in_heads as_ k d e in omega (arith, l))))) v refl)
    (built_has same_value is_open as_ tail (λ k d e. (sampled d.type (formed_at as_ v k d e) (filled_at as_ f k d e).1).0) v fits) in
    let s = field_at bs is_closed fs r.1 z x (built_other same_value as_ tail z no_a ∙ field_first z x no_fields) in
    subst (FieldFits is_closed (HasType x)) no_b s

frame_included : (as_ : Attributes) (o : Openness) (bs : Attributes) (p : Openness) → Formed as_ → are_filled as_ ≡ true → Inside (record_type as_ o) (record_type bs p) → (p ≡ is_closed → are_named as_ bs ≡ true) → is_frame_below permissive as_ o bs p ≡ true
frame_included as_ o bs is_open v f inc names = open_frame as_ o bs
frame_included as_ is_closed bs is_closed v f inc names = from_closed_frame as_ is_closed bs refl (names refl)
frame_included as_ is_open bs is_closed v f inc names = absurd (wide as_ bs v f inc)

included_step : (a : Ty) → Parts Included a → Included a
included_step never q b v w f g inc = no_lie f
included_step (bool_type x) q (bool_type y) v w f g inc = bool_included x y (λ c h. inc (prim (truth c)) refl h)
included_step long_type q long_type v w f g inc = refl
included_step string_type q string_type v w f g inc = refl
included_step any_entity q any_entity v w f g inc = refl
included_step any_entity q (entity_types ms) v w f g inc = absurd (not_listed ms (inc (entity_of (plain (suc (total ms) ∷ []))) refl tt))
included_step (entity_types ns) q any_entity v w f g inc = refl
included_step (entity_types ns) q (entity_types ms) v w f g inc = among_from ns ms (λ x k. inc (entity_of x) refl k)
included_step any_set q any_set v w f g inc = refl
included_step any_set q (set_type u) v w f g inc = absurd (outside u (inc (set_of (value (outsider u) no_values)) (one_canonical (outsider u) (outsider_canonical u)) tt).0)
included_step (set_type t) q any_set v w f g inc = refl
included_step (set_type t) q (set_type u) v w f g inc = q u v w f g (λ x c h. (inc (set_of (value x no_values)) (one_canonical x c) (h, tt)).0)
included_step (record_type as_ o) parts (record_type bs p) v w f g inc =
    hold_both (is_frame_below permissive as_ o bs p) (have_below permissive as_ bs)
    (frame_included as_ o bs p v f inc (included_names as_ o bs p v w f g inc))
    (included_have as_ o bs p v w f g inc parts)
included_step (extension_type n) q (extension_type m) v w f g inc = (name_eq-Decides n m).1 (inc (extension n []) refl refl)
included_step (bool_type x) q b v w f g inc = let s = sampled (bool_type x) refl refl in absurd (inc (sample (bool_type x)) s.1 s.0)
included_step long_type q b v w f g inc = absurd (inc (prim (long (pos 0))) refl tt)
included_step string_type q b v w f g inc = absurd (inc (prim (text [])) refl tt)
included_step any_entity q b v w f g inc = absurd (inc (entity_of (plain [])) refl tt)
included_step (entity_types ns) q b v w f g inc = absurd (no_member ns v (λ n k. inc (entity_of n) refl k))
included_step any_set q b v w f g inc = absurd (inc (set_of no_values) refl tt)
included_step (set_type t) q b v w f g inc = absurd (inc (set_of no_values) refl tt)
included_step (record_type as_ o) q b v w f g inc = let s = sampled (record_type as_ o) v f in absurd (inc (sample (record_type as_ o)) s.1 s.0)
included_step (extension_type n) q b v w f g inc = absurd (inc (extension n []) refl refl)

pub subtypes_include : (a b : Ty) → is_well_formed_type a ≡ true → is_well_formed_type b ≡ true → is_filled a ≡ true → is_filled b ≡ true → Below permissive a b ↔ ((v : V) → is_canonical v ≡ true → HasType v a → HasType v b)
subtypes_include a b v w f g = (λ h x c k. value_kept x a b h k, λ inc. each_type Included included_step a b v w f g inc)
