-- Joins that are the same: of ordered types, with the two swapped, and in both modes.
use Rattle.std.proofs.Common.{◌≡◌, ⊎_elim, List, Bool, true, false, cond, ◌&&◌, ◌||◌, Option, Some, None, IfSome, option_map, refl, sym, ap, ◌∙◌, subst}
use Rattle.cedar_expr_model.specs.Name.{Text, Name, name_eq}
use Rattle.cedar_expr_model.proofs.Equality.{name_eq-Decides}
use Rattle.cedar_expr_model.proofs.Lists.{hold_both}
use Rattle.cedar_schema_model.specs.Types.{BoolType, any_bool, only_true, only_false, Openness, is_open, is_closed, Ty, never, bool_type, long_type, string_type, any_entity, entity_types, any_set, set_type, record_type, extension_type, Attributes, Declared, attribute_named, Mode, strict, permissive}
use Rattle.cedar_schema_model.specs.Subtype.{is_permissive, is_closed_record, are_among, are_named, carries, is_bool_below, is_union_below, is_frame_below, have_below}
use Rattle.cedar_schema_model.specs.OfLaws.Formed.{Below, is_union, is_well_formed_type}
use Rattle.cedar_schema_model.specs.Join.{bool_join, names_of_both, agree, declared_in_common, union_join, all_stayed, record_join, join, attributes_join}
use Rattle.cedar_schema_model.proofs.Types.Lookups.{no_lie, declares, each_type, Parts, Formed, formed_at, same_attributes}
use Rattle.cedar_schema_model.proofs.Types.Names.{among_at, union_parts, both_in, both_left, both_right, both_named, both_rising, same_names}
use Rattle.cedar_schema_model.proofs.Types.Subtypes.{have_at, named_at, named_from, record_parts, strict_frame, closed_frame, same_declared, same_options, union_weaker}
use Rattle.cedar_schema_model.proofs.Types.JoinParts.{if_given, given_if, given, for_some, declared_join, joint, joins, join_named, agree_same, agree_back, and_back}
use Rattle.cedar_schema_model.proofs.Types.JoinFormed.{attributes_formed}
use Rattle.cedar_schema_model.proofs.Types.JoinAbove.{opened, allowed, strict_allowed}
use Rattle.cedar_schema_model.proofs.Named.{openness_of_join}

-- swapped
bool_back : (x y : BoolType) → bool_join x y ≡ bool_join y x
bool_back only_true only_true = refl
bool_back only_false only_false = refl
bool_back any_bool any_bool = refl
bool_back x y = refl

both_back : (ns ms : List Name) → is_union ns ≡ true → is_union ms ≡ true → names_of_both ns ms ≡ names_of_both ms ns
both_back ns ms v w =
    let p = union_parts ns v in
    let q = union_parts ms w in
    same_names (names_of_both ns ms) (names_of_both ms ns) (both_named ns ms p.0 q.0) (both_named ms ns q.0 p.0) (both_rising ns ms q.1) (both_rising ms ns p.1)
    (λ x k. ⊎_elim (both_right ms ns x) (both_left ms ns q.0 p.0 x) (both_in ns ms x k))
    (λ x k. ⊎_elim (both_right ns ms x) (both_left ns ms p.0 q.0 x) (both_in ms ns x k))

union_back : (m : Mode) (ns ms : List Name) → is_union ns ≡ true → is_union ms ≡ true → union_join m ns ms ≡ union_join m ms ns
union_back m ns ms v w =
    let e = both_back ns ms v w in
    let f = and_back (are_among ns ms) (are_among ms ns) in
    λ i. cond (is_permissive m || f i) (Some (entity_types (e i))) None

common_back : (m : Mode) (r s : Bool) (o : Option Ty) → declared_in_common m r s o ≡ declared_in_common m s r o
common_back m r s None = refl
common_back m r s (Some t) =
    let e = agree_back m r s in
    let f = and_back r s in
    λ i. cond (e i) (Some (declares t (f i))) None

declared_back : (m : Mode) (x y : Option Declared) → ((d c : Declared) → x ≡ Some d → y ≡ Some c → join m d.type c.type ≡ join m c.type d.type) → declared_join m x y ≡ declared_join m y x
declared_back m None None h = refl
declared_back m None (Some c) h = refl
declared_back m (Some d) None h = refl
declared_back m (Some d) (Some c) h = ap (declared_in_common m d.is_required c.is_required) (h d c refl refl) ∙ common_back m d.is_required c.is_required (join m c.type d.type)

abbrev Swaps : Mode → Ty → Type 0
Swaps m a = (b : Ty) → is_well_formed_type a ≡ true → is_well_formed_type b ≡ true → join m a b ≡ join m b a

attributes_back : (m : Mode) (as_ bs : Attributes) → ((n : Text) (d : Declared) → attribute_named n as_ ≡ Some d → Swaps m d.type) → Formed as_ → Formed bs → attributes_join m as_ bs ≡ attributes_join m bs as_
attributes_back m as_ bs parts v w =
    same_attributes (attributes_join m as_ bs) (attributes_join m bs as_) (attributes_formed m as_ bs v w) (attributes_formed m bs as_ w v) (λ n.
    join_named m as_ bs v n
    ∙ (declared_back m (attribute_named n as_) (attribute_named n bs) (λ d c p q. parts n d p c.type (formed_at as_ v n d p) (formed_at bs w n c q))
    ∙ sym (join_named m bs as_ w n)))

stayed_back : (as_ bs js : Attributes) → all_stayed as_ bs js ≡ all_stayed bs as_ js
stayed_back as_ bs js = and_back (are_named as_ js) (are_named bs js)

and_turned : (x y z : Bool) → (x && (y && z)) ≡ (y && (x && z))
and_turned true y z = refl
and_turned false true z = refl
and_turned false false z = refl

record_back : (m : Mode) (as_ : Attributes) (o : Openness) (bs : Attributes) (p : Openness) (js : Attributes) → record_join m as_ o bs p js ≡ record_join m bs p as_ o js
record_back m as_ o bs p js =
    let e = agree_back m (is_closed_record o) (is_closed_record p) in
    let s = stayed_back as_ bs js in
    let t : (is_closed_record o && (is_closed_record p && all_stayed as_ bs js)) ≡ (is_closed_record p && (is_closed_record o && all_stayed bs as_ js)) = and_turned (is_closed_record o) (is_closed_record p) (all_stayed as_ bs js) ∙ ap (λ x. is_closed_record p && (is_closed_record o && x)) s in
    λ i. cond (e i && (is_permissive m || s i)) (Some (record_type js (openness_of_join (t i)))) None

name_eq_back : (k n : Name) → name_eq k n ≡ true → name_eq n k ≡ true
name_eq_back k n h = (name_eq-Decides n k).1 (sym ((name_eq-Decides k n).0 h))

extension_back : (k n : Name) → cond (name_eq k n) (Some (extension_type k)) None ≡ cond (name_eq n k) (Some (extension_type n)) None
extension_back k n =
    same_options (cond (name_eq k n) (Some (extension_type k)) None) (cond (name_eq n k) (Some (extension_type n)) None)
    (λ d h. back k n d h) (λ d h. back n k d h)
  where
    back : (k n : Name) (d : Ty) → cond (name_eq k n) (Some (extension_type k)) None ≡ Some d → cond (name_eq n k) (Some (extension_type n)) None ≡ Some d
    back k n d h =
        let f = given_if (name_eq k n) (extension_type k) d h in
        given (name_eq n k) (extension_type n) (name_eq_back k n f.0) ∙ ap Some (ap extension_type (sym ((name_eq-Decides k n).0 f.0)) ∙ f.1)

swap_step : (m : Mode) (a : Ty) → Parts (Swaps m) a → Swaps m a
swap_step m never p never v w = refl
swap_step m long_type p long_type v w = refl
swap_step m string_type p string_type v w = refl
swap_step m any_entity p any_entity v w = refl
swap_step m any_set p any_set v w = refl
swap_step m (bool_type x) p (bool_type y) v w = ap Some (ap bool_type (bool_back x y))
swap_step m (entity_types ns) p (entity_types ms) v w = union_back m ns ms v w
swap_step m (set_type a) p (set_type b) v w = ap (option_map set_type) (p b v w)
swap_step m (record_type as_ o) parts (record_type bs p) v w =
    ap (record_join m as_ o bs p) (attributes_back m as_ bs parts v w) ∙ record_back m as_ o bs p (attributes_join m bs as_)
swap_step m (extension_type k) p (extension_type n) v w = extension_back k n
swap_step m a p b v w = refl

pub join_swaps : (m : Mode) (a b : Ty) → is_well_formed_type a ≡ true → is_well_formed_type b ≡ true → join m a b ≡ join m b a
join_swaps m = each_type (Swaps m) (swap_step m)

-- in both modes
abbrev Weakens : Ty → Type 0
Weakens a = (b : Ty) → is_well_formed_type a ≡ true → is_well_formed_type b ≡ true → IfSome (join strict a b) (λ j. join permissive a b ≡ Some j)

map_weakens : (o x : Option Ty) → IfSome o (λ j. x ≡ Some j) → IfSome (option_map set_type o) (λ j. option_map set_type x ≡ Some j)
map_weakens None x h = tt
map_weakens (Some j) x h = ap (option_map set_type) h

attributes_weaken : (as_ bs : Attributes) → ((n : Text) (d : Declared) → attribute_named n as_ ≡ Some d → Weakens d.type) → Formed as_ → Formed bs → are_named as_ (attributes_join strict as_ bs) ≡ true → attributes_join strict as_ bs ≡ attributes_join permissive as_ bs
attributes_weaken as_ bs parts v w stay =
    same_attributes (attributes_join strict as_ bs) (attributes_join permissive as_ bs) (attributes_formed strict as_ bs v w) (attributes_formed permissive as_ bs v w) (λ n.
    join_named strict as_ bs v n ∙ (at n (attribute_named n as_) refl ∙ sym (join_named permissive as_ bs v n)))
  where
    at : (n : Text) (x : Option Declared) → attribute_named n as_ ≡ x → declared_join strict (attribute_named n as_) (attribute_named n bs) ≡ declared_join permissive (attribute_named n as_) (attribute_named n bs)
    at n None e = ap (λ x. declared_join strict x (attribute_named n bs)) e ∙ sym (ap (λ x. declared_join permissive x (attribute_named n bs)) e)
    at n (Some d) e =
        let s = named_at as_ (attributes_join strict as_ bs) stay n d e in
        let h = sym (join_named strict as_ bs v n) ∙ s.1 in
        let k = joint strict (attribute_named n as_) (attribute_named n bs) s.0 h in
        let t = for_some (λ j. join permissive k.first.type k.second.type ≡ Some j) (join strict k.first.type k.second.type) s.0.type
        (parts n k.first k.first_is k.second.type (formed_at as_ v n k.first k.first_is) (formed_at bs w n k.second k.second_is)) k.types in
        let c = joins permissive (attribute_named n as_) (attribute_named n bs) k.first k.second s.0.type k.first_is k.second_is t refl in
        h ∙ (ap Some (sym (same_declared (declares s.0.type (k.first.is_required && k.second.is_required)) s.0 refl k.required)) ∙ sym c)

records_weaken : (as_ : Attributes) (o : Openness) (bs : Attributes) (p : Openness) → ((n : Text) (d : Declared) → attribute_named n as_ ≡ Some d → Weakens d.type) → Formed as_ → Formed bs → allowed strict as_ o bs p (attributes_join strict as_ bs) ≡ true → join permissive (record_type as_ o) (record_type bs p) ≡ Some (record_type (attributes_join strict as_ bs) (opened as_ o bs p (attributes_join strict as_ bs)))
records_weaken as_ o bs p parts v w h =
    let f = strict_allowed as_ o bs p (attributes_join strict as_ bs) h in
    let e = attributes_weaken as_ bs parts v w f.2 in
    λ i. Some (record_type (sym e i) (opened as_ o bs p (sym e i)))

weaken_step : (a : Ty) → Parts Weakens a → Weakens a
weaken_step never p b v w = refl
weaken_step (bool_type x) p never v w = refl
weaken_step long_type p never v w = refl
weaken_step string_type p never v w = refl
weaken_step any_entity p never v w = refl
weaken_step (entity_types ns) p never v w = refl
weaken_step any_set p never v w = refl
weaken_step (set_type t) p never v w = refl
weaken_step (record_type as_ o) p never v w = refl
weaken_step (extension_type n) p never v w = refl
weaken_step (bool_type x) p (bool_type y) v w = refl
weaken_step long_type p long_type v w = refl
weaken_step string_type p string_type v w = refl
weaken_step any_entity p any_entity v w = refl
weaken_step (entity_types ns) p (entity_types ms) v w =
    if_given (λ j. join permissive (entity_types ns) (entity_types ms) ≡ Some j) (are_among ns ms && are_among ms ns) (entity_types (names_of_both ns ms)) (λ e. refl)
weaken_step any_set p any_set v w = refl
weaken_step any_set p (set_type b) v w = refl
weaken_step (set_type a) p any_set v w = refl
weaken_step (set_type a) p (set_type b) v w = map_weakens (join strict a b) (join permissive a b) (p b v w)
weaken_step (record_type as_ o) parts (record_type bs p) v w =
    let js = attributes_join strict as_ bs in
    if_given (λ j. join permissive (record_type as_ o) (record_type bs p) ≡ Some j) (allowed strict as_ o bs p js) (record_type js (opened as_ o bs p js)) (records_weaken as_ o bs p parts v w)
weaken_step (extension_type k) p (extension_type n) v w =
    if_given (λ j. join permissive (extension_type k) (extension_type n) ≡ Some j) (name_eq k n) (extension_type k) (λ e. given (name_eq k n) (extension_type k) e)
weaken_step a p b v w = tt

pub strict_join_same : (a b j : Ty) → is_well_formed_type a ≡ true → is_well_formed_type b ≡ true → join strict a b ≡ Some j → join permissive a b ≡ Some j
strict_join_same a b j v w e = for_some (λ x. join permissive a b ≡ Some x) (join strict a b) j (each_type Weakens weaken_step a b v w) e

-- of two types of which one is below the other, the greater
abbrev Ordered : Mode → Ty → Type 0
Ordered m a = (b : Ty) → is_well_formed_type a ≡ true → is_well_formed_type b ≡ true → Below m a b → join m a b ≡ Some b

bool_ordered : (x y : BoolType) → is_bool_below x y ≡ true → bool_join x y ≡ y
bool_ordered any_bool any_bool h = refl
bool_ordered only_true any_bool h = refl
bool_ordered only_false any_bool h = refl
bool_ordered only_true only_true h = refl
bool_ordered only_false only_false h = refl
bool_ordered x y h = no_lie h

union_allowed : (m : Mode) (ns ms : List Name) → is_union_below m ns ms ≡ true → (is_permissive m || (are_among ns ms && are_among ms ns)) ≡ true
union_allowed permissive ns ms h = refl
union_allowed strict ns ms h = h

both_ordered : (ns ms : List Name) → is_union ns ≡ true → is_union ms ≡ true → are_among ns ms ≡ true → names_of_both ns ms ≡ ms
both_ordered ns ms v w h =
    let p = union_parts ns v in
    let q = union_parts ms w in
    same_names (names_of_both ns ms) ms (both_named ns ms p.0 q.0) q.0 (both_rising ns ms q.1) q.1
    (λ x k. ⊎_elim (among_at ns ms h x) (λ i. i) (both_in ns ms x k)) (both_right ns ms)

union_ordered : (m : Mode) (ns ms : List Name) → is_union ns ≡ true → is_union ms ≡ true → is_union_below m ns ms ≡ true → union_join m ns ms ≡ Some (entity_types ms)
union_ordered m ns ms v w h =
    given (is_permissive m || (are_among ns ms && are_among ms ns)) (entity_types (names_of_both ns ms)) (union_allowed m ns ms h)
    ∙ ap Some (ap entity_types (both_ordered ns ms v w (union_weaker m ns ms h)))

carried_and : (m : Mode) (x y : Bool) → carries m x y ≡ true → (x && y) ≡ y
carried_and m true y h = refl
carried_and m false false h = refl
carried_and permissive false true h = no_lie h
carried_and strict false true h = no_lie h

carried_agrees : (m : Mode) (x y : Bool) → carries m x y ≡ true → agree m x y ≡ true
carried_agrees permissive x y h = refl
carried_agrees strict x y h = h

none_joined : (m : Mode) (x : Option Declared) → declared_join m x None ≡ None
none_joined m None = refl
none_joined m (Some d) = refl

attributes_ordered : (m : Mode) (as_ bs : Attributes) → ((n : Text) (d : Declared) → attribute_named n as_ ≡ Some d → Ordered m d.type) → Formed as_ → Formed bs → have_below m as_ bs ≡ true → attributes_join m as_ bs ≡ bs
attributes_ordered m as_ bs parts v w h =
    same_attributes (attributes_join m as_ bs) bs (attributes_formed m as_ bs v w) w (λ n. join_named m as_ bs v n ∙ at n (attribute_named n bs) refl)
  where
    at : (n : Text) (y : Option Declared) → attribute_named n bs ≡ y → declared_join m (attribute_named n as_) (attribute_named n bs) ≡ attribute_named n bs
    at n None e = ap (declared_join m (attribute_named n as_)) e ∙ (none_joined m (attribute_named n as_) ∙ sym e)
    at n (Some c) e =
        let f = have_at m as_ bs h n c e in
        let d = f.0 in
        let t = parts n d f.1 c.type (formed_at as_ v n d f.1) (formed_at bs w n c e) f.2 in
        joins m (attribute_named n as_) (attribute_named n bs) d c c.type f.1 e t (carried_agrees m d.is_required c.is_required f.3)
        ∙ (ap Some (same_declared (declares c.type (d.is_required && c.is_required)) c refl (carried_and m d.is_required c.is_required f.3)) ∙ sym e)

opened_ordered : (m : Mode) (as_ : Attributes) (o : Openness) (bs : Attributes) (p : Openness) → Formed bs → is_frame_below m as_ o bs p ≡ true → record_join m as_ o bs p bs ≡ Some (record_type bs p)
opened_ordered permissive as_ is_open bs is_open w h = refl
opened_ordered permissive as_ is_closed bs is_open w h = refl
opened_ordered permissive as_ o bs is_closed w h =
    let f = closed_frame as_ o bs h in
    let s : all_stayed as_ bs bs ≡ true = hold_both (are_named as_ bs) (are_named bs bs) f.1 (named_from bs bs w (λ n d e. (d, e))) in
    (λ i. record_join permissive as_ (f.0 i) bs is_closed bs) ∙ ap (λ x. Some (record_type bs (openness_of_join x))) s
opened_ordered strict as_ o bs p w h =
    let f = strict_frame as_ o bs p h in
    let s : all_stayed as_ bs bs ≡ true = hold_both (are_named as_ bs) (are_named bs bs) f.1 (named_from bs bs w (λ n d e. (d, e))) in
    let a : allowed strict as_ o bs p bs ≡ true = hold_both (agree strict (is_closed_record o) (is_closed_record p)) (all_stayed as_ bs bs) (subst (λ x. agree strict (is_closed_record o) (is_closed_record x) ≡ true) f.0 (agree_same strict (is_closed_record o))) s in
    given (allowed strict as_ o bs p bs) (record_type bs (opened as_ o bs p bs)) a ∙ ap Some (ap (record_type bs) (strict_allowed as_ o bs p bs a).1)

ordered_step : (m : Mode) (a : Ty) → Parts (Ordered m) a → Ordered m a
ordered_step m never p b v w h = refl
ordered_step m (bool_type x) p (bool_type y) v w h = ap Some (ap bool_type (bool_ordered x y h))
ordered_step m long_type p long_type v w h = refl
ordered_step m string_type p string_type v w h = refl
ordered_step m any_entity p any_entity v w h = refl
ordered_step m (entity_types ns) p any_entity v w h = given (is_permissive m) any_entity h
ordered_step m (entity_types ns) p (entity_types ms) v w h = union_ordered m ns ms v w h
ordered_step m any_set p any_set v w h = refl
ordered_step m (set_type a) p any_set v w h = refl
ordered_step m (set_type a) p (set_type b) v w h = ap (option_map set_type) (p b v w h)
ordered_step m (record_type as_ o) parts (record_type bs p) v w h =
    let f = record_parts m as_ o bs p h in
    ap (record_join m as_ o bs p) (attributes_ordered m as_ bs parts v w f.1) ∙ opened_ordered m as_ o bs p w f.0
ordered_step m (extension_type k) p (extension_type n) v w h = given (name_eq k n) (extension_type k) h ∙ ap Some (ap extension_type ((name_eq-Decides k n).0 h))
ordered_step m a p b v w h = no_lie h

pub join_ordered : (m : Mode) (a b : Ty) → is_well_formed_type a ≡ true → is_well_formed_type b ≡ true → Below m a b → join m a b ≡ Some b
join_ordered m = each_type (Ordered m) (ordered_step m)
