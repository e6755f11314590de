-- What strict mode says more.
use Rattle.std.proofs.Common.{◌≡◌, ◌↔◌, List, Bool, true, ◌&&◌, Option, Some, None, IfSome, option_map, refl, sym, ap, ◌∙◌, subst}
use Rattle.std.specs.Bool.{beq}
use Rattle.cedar_expr_model.specs.Name.{Text, Name, name_eq}
use Rattle.cedar_expr_model.proofs.Lists.{both_hold, hold_both}
use Rattle.cedar_schema_model.specs.Types.{Openness, Ty, never, bool_type, long_type, string_type, any_entity, entity_types, any_set, set_type, record_type, extension_type, Attributes, no_attributes, attribute, Declared, attribute_named, strict, permissive}
use Rattle.cedar_schema_model.specs.Subtype.{is_closed_record, are_among, are_named, carries, is_union_below, is_frame_below, is_declared_below, is_subtype, have_below}
use Rattle.cedar_schema_model.specs.OfLaws.Formed.{Below, is_well_formed_type}
use Rattle.cedar_schema_model.specs.TypeLaws.{is_declared_alike, is_alike, have_alike}
use Rattle.cedar_schema_model.specs.Join.{names_of_both, agree, all_stayed, record_join, join, attributes_join}
use Rattle.cedar_schema_model.proofs.Types.Lookups.{no_lie, no_none, inside, declares, each_type, Parts, Formed, formed_at, same_attributes}
use Rattle.cedar_schema_model.proofs.Types.Names.{among_at, among_from}
use Rattle.cedar_schema_model.proofs.Types.Subtypes.{have_at, have_parts, declared_found, found_declared, named_at, record_parts, strict_frame, same_declared, below_weaker}
use Rattle.cedar_schema_model.proofs.Types.JoinParts.{if_given, given, for_some, declared_join, joint, joins, join_named, agree_same, carries_agree}
use Rattle.cedar_schema_model.proofs.Types.JoinFormed.{attributes_formed}
use Rattle.cedar_schema_model.proofs.Types.JoinAbove.{opened, allowed, join_above}
use Rattle.cedar_schema_model.proofs.Types.JoinSame.{strict_join_same}

-- declared alike
abbrev AlikeFound : Attributes → Text → Ty → Bool → Type 0
AlikeFound as_ n t r = (d : Declared) × (attribute_named n as_ ≡ Some d) × (is_alike d.type t ≡ true) × (beq d.is_required r ≡ true)

alike_found : (t : Ty) (r : Bool) (o : Option Declared) → is_declared_alike (λ a. is_alike a t) r o ≡ true → (d : Declared) × (o ≡ Some d) × (is_alike d.type t ≡ true) × (beq d.is_required r ≡ true)
alike_found t r None h = no_lie h
alike_found t r (Some d) h = let p = both_hold (is_alike d.type t) (beq d.is_required r) h in (d, refl, p.0, p.1)

found_alike : (t : Ty) (r : Bool) (o : Option Declared) (d : Declared) → o ≡ Some d → is_alike d.type t ≡ true → beq d.is_required r ≡ true → is_declared_alike (λ a. is_alike a t) r o ≡ true
found_alike t r o d e h k = subst (λ x. is_declared_alike (λ a. is_alike a t) r x ≡ true) (sym e) (hold_both (is_alike d.type t) (beq d.is_required r) h k)

record_alike : (as_ : Attributes) (o : Openness) (bs : Attributes) (p : Openness) → is_alike (record_type as_ o) (record_type bs p) ≡ true → (beq (is_closed_record o) (is_closed_record p) ≡ true) × (are_named as_ bs ≡ true) × (have_alike as_ bs ≡ true)
record_alike as_ o bs p h =
    let f = both_hold (beq (is_closed_record o) (is_closed_record p)) (are_named as_ bs && have_alike as_ bs) h in
    let g = both_hold (are_named as_ bs) (have_alike as_ bs) f.1 in
    (f.0, g.0, g.1)

frame_alike : (as_ : Attributes) (o : Openness) (bs : Attributes) (p : Openness) → beq (is_closed_record o) (is_closed_record p) ≡ true → are_named as_ bs ≡ true → is_frame_below strict as_ o bs p ≡ true
frame_alike as_ o bs p h k = hold_both (beq (is_closed_record o) (is_closed_record p)) (are_named as_ bs) h k

alike_frame : (as_ : Attributes) (o : Openness) (bs : Attributes) (p : Openness) → is_frame_below strict as_ o bs p ≡ true → (beq (is_closed_record o) (is_closed_record p) ≡ true) × (are_named as_ bs ≡ true)
alike_frame as_ o bs p h = both_hold (beq (is_closed_record o) (is_closed_record p)) (are_named as_ bs) h

mutual
  alike_of : (b a : Ty) → Below strict a b → is_alike a b ≡ true
  alike_of any_entity (entity_types ns) h = no_lie h
  alike_of (entity_types ms) any_entity h = no_lie h
  alike_of (entity_types ms) (entity_types ns) h = h
  alike_of (set_type b) (set_type a) h = alike_of b a h
  alike_of (record_type bs p) (record_type as_ o) h =
      let f = record_parts strict as_ o bs p h in
      let g = alike_frame as_ o bs p f.0 in
      hold_both (beq (is_closed_record o) (is_closed_record p)) (are_named as_ bs && have_alike as_ bs) g.0
      (hold_both (are_named as_ bs) (have_alike as_ bs) g.1 (alike_all bs as_ f.1))
  alike_of b never h = refl
  alike_of b (bool_type x) h = refl
  alike_of b long_type h = refl
  alike_of b string_type h = refl
  alike_of any_entity any_entity h = refl
  alike_of b any_entity h = no_lie h
  alike_of b any_set h = refl
  alike_of b (extension_type n) h = refl
  alike_of any_set (set_type a) h = refl
  alike_of b a h = no_lie h

  alike_all : (bs as_ : Attributes) → have_below strict as_ bs ≡ true → have_alike as_ bs ≡ true
  alike_all no_attributes as_ h = refl
  alike_all (attribute n t r bs) as_ h =
      let p = have_parts strict as_ n t r bs h in
      let f = declared_found strict t r (attribute_named n as_) p.0 in
      hold_both (is_declared_alike (λ a. is_alike a t) r (attribute_named n as_)) (have_alike as_ bs)
      (found_alike t r (attribute_named n as_) f.0 f.1 (alike_of t f.0.type f.2) f.3) (alike_all bs as_ p.1)

mutual
  strict_of : (b a : Ty) → Below permissive a b → is_alike a b ≡ true → Below strict a b
  strict_of b never h k = refl
  strict_of (bool_type y) (bool_type x) h k = h
  strict_of long_type long_type h k = refl
  strict_of string_type string_type h k = refl
  strict_of any_entity any_entity h k = refl
  strict_of any_entity (entity_types ns) h k = no_lie k
  strict_of (entity_types ms) (entity_types ns) h k = k
  strict_of any_set any_set h k = refl
  strict_of any_set (set_type a) h k = refl
  strict_of (set_type b) (set_type a) h k = strict_of b a h k
  strict_of (record_type bs p) (record_type as_ o) h k =
      let f = record_parts permissive as_ o bs p h in
      let g = record_alike as_ o bs p k in
      hold_both (is_frame_below strict as_ o bs p) (have_below strict as_ bs) (frame_alike as_ o bs p g.0 g.1) (strict_all bs as_ f.1 g.2)
  strict_of (extension_type n) (extension_type m) h k = h
  strict_of b a h k = no_lie h

  strict_all : (bs as_ : Attributes) → have_below permissive as_ bs ≡ true → have_alike as_ bs ≡ true → have_below strict as_ bs ≡ true
  strict_all no_attributes as_ h k = refl
  strict_all (attribute n t r bs) as_ h k =
      let p = have_parts permissive as_ n t r bs h in
      let f = declared_found permissive t r (attribute_named n as_) p.0 in
      let q = both_hold (is_declared_alike (λ a. is_alike a t) r (attribute_named n as_)) (have_alike as_ bs) k in
      let g = alike_found t r (attribute_named n as_) q.0 in
      let e : f.0 ≡ g.0 = inside (sym f.1 ∙ g.1) in
      let below : Below permissive g.0.type t = subst (λ (x : Declared). Below permissive x.type t) e f.2 in
      hold_both (is_declared_below strict (λ a. is_subtype strict a t) r (attribute_named n as_)) (have_below strict as_ bs)
      (found_declared strict t r (attribute_named n as_) g.0 g.1 (strict_of t g.0.type below g.2) g.3)
      (strict_all bs as_ p.1 q.1)

pub strict_exactly : (a b : Ty) → Below strict a b ↔ (Below permissive a b × (is_alike a b ≡ true))
strict_exactly a b = (λ h. (below_weaker b a h, alike_of b a h), λ h. strict_of b a h.0 h.1)

-- The permissive join is the strict one where it is strictly above both.
abbrev Strengthens : Ty → Type 0
Strengthens a = (b : Ty) → is_well_formed_type a ≡ true → is_well_formed_type b ≡ true → IfSome (join permissive a b) (λ j. Below strict a j → Below strict b j → join strict a b ≡ Some j)

map_strong : (a b : Ty) (o x : Option Ty) → IfSome o (λ j. Below strict a j → Below strict b j → x ≡ Some j) → IfSome (option_map set_type o) (λ j. Below strict (set_type a) j → Below strict (set_type b) j → option_map set_type x ≡ Some j)
map_strong a b None x h = tt
map_strong a b (Some j) x h = λ k l. ap (option_map set_type) (h k l)

union_strong : (ns ms : List Name) → is_union_below strict ns (names_of_both ns ms) ≡ true → is_union_below strict ms (names_of_both ns ms) ≡ true → (are_among ns ms && are_among ms ns) ≡ true
union_strong ns ms h k =
    let both = names_of_both ns ms in
    let f = both_hold (are_among ns both) (are_among both ns) h in
    let g = both_hold (are_among ms both) (are_among both ms) k in
    hold_both (are_among ns ms) (are_among ms ns)
    (among_from ns ms (λ x i. among_at both ms g.1 x (among_at ns both f.0 x i)))
    (among_from ms ns (λ x i. among_at both ns f.1 x (among_at ms both g.0 x i)))

module _ (as_ bs : Attributes) (parts : (n : Text) (d : Declared) → attribute_named n as_ ≡ Some d → Strengthens d.type) (v : Formed as_) (w : Formed bs) (stay : are_named as_ (attributes_join permissive as_ bs) ≡ true) (h : have_below strict as_ (attributes_join permissive as_ bs) ≡ true) (k : have_below strict bs (attributes_join permissive as_ bs) ≡ true) where
  none : (n : Text) (x : Option Declared) → attribute_named n as_ ≡ x → attribute_named n (attributes_join permissive as_ bs) ≡ None → declared_join strict (attribute_named n as_) (attribute_named n bs) ≡ None
  none n None e q = ap (λ x. declared_join strict x (attribute_named n bs)) e
  none n (Some d) e q = let c = named_at as_ (attributes_join permissive as_ bs) stay n d e in no_none (sym q ∙ c.1)

  strong_at : (n : Text) (x : Option Declared) → attribute_named n (attributes_join permissive as_ bs) ≡ x → declared_join strict (attribute_named n as_) (attribute_named n bs) ≡ x
  strong_at n (Some e) q =
      let js = attributes_join permissive as_ bs in
      let l = joint permissive (attribute_named n as_) (attribute_named n bs) e (sym (join_named permissive as_ bs v n) ∙ q) in
      let d = l.first in
      let c = l.second in
      let f = have_at strict as_ js h n e q in
      let g = have_at strict bs js k n e q in
      let fd : f.0 ≡ d = inside (sym f.1 ∙ l.first_is) in
      let gc : g.0 ≡ c = inside (sym g.1 ∙ l.second_is) in
      let below_d : Below strict d.type e.type = subst (λ (x : Declared). Below strict x.type e.type) fd f.2 in
      let below_c : Below strict c.type e.type = subst (λ (x : Declared). Below strict x.type e.type) gc g.2 in
      let flag_d : carries strict d.is_required e.is_required ≡ true = subst (λ (x : Declared). carries strict x.is_required e.is_required ≡ true) fd f.3 in
      let flag_c : carries strict c.is_required e.is_required ≡ true = subst (λ (x : Declared). carries strict x.is_required e.is_required ≡ true) gc g.3 in
      let t = for_some (λ j. Below strict d.type j → Below strict c.type j → join strict d.type c.type ≡ Some j) (join permissive d.type c.type) e.type
      (parts n d l.first_is c.type (formed_at as_ v n d l.first_is) (formed_at bs w n c l.second_is)) l.types below_d below_c in
      joins strict (attribute_named n as_) (attribute_named n bs) d c e.type l.first_is l.second_is t (carries_agree strict d.is_required c.is_required e.is_required flag_d flag_c)
      ∙ ap Some (same_declared (declares e.type (d.is_required && c.is_required)) e refl l.required)
  strong_at n None q = none n (attribute_named n as_) refl q

  attributes_strong : attributes_join strict as_ bs ≡ attributes_join permissive as_ bs
  attributes_strong =
      same_attributes (attributes_join strict as_ bs) (attributes_join permissive as_ bs) (attributes_formed strict as_ bs v w) (attributes_formed permissive as_ bs v w)
      (λ n. join_named strict as_ bs v n ∙ strong_at n (attribute_named n (attributes_join permissive as_ bs)) refl)

records_strong : (as_ : Attributes) (o : Openness) (bs : Attributes) (p : Openness) → ((n : Text) (d : Declared) → attribute_named n as_ ≡ Some d → Strengthens d.type) → Formed as_ → Formed bs → (js : Attributes) → js ≡ attributes_join permissive as_ bs → Below strict (record_type as_ o) (record_type js (opened as_ o bs p js)) → Below strict (record_type bs p) (record_type js (opened as_ o bs p js)) → join strict (record_type as_ o) (record_type bs p) ≡ Some (record_type js (opened as_ o bs p js))
records_strong as_ o bs p parts v w js e h k =
    let r = opened as_ o bs p js in
    let f = record_parts strict as_ o js r h in
    let g = record_parts strict bs p js r k in
    let ff = strict_frame as_ o js r f.0 in
    let gg = strict_frame bs p js r g.0 in
    let same : agree strict (is_closed_record o) (is_closed_record p) ≡ true = subst (λ x. agree strict (is_closed_record o) (is_closed_record x) ≡ true) (ff.0 ∙ sym gg.0) (agree_same strict (is_closed_record o)) in
    let a : allowed strict as_ o bs p js ≡ true = hold_both (agree strict (is_closed_record o) (is_closed_record p)) (all_stayed as_ bs js) same (hold_both (are_named as_ js) (are_named bs js) ff.1 gg.1) in
    let q : attributes_join strict as_ bs ≡ js =
    attributes_strong as_ bs parts v w (subst (λ x. are_named as_ x ≡ true) e ff.1) (subst (λ x. have_below strict as_ x ≡ true) e f.1) (subst (λ x. have_below strict bs x ≡ true) e g.1) ∙ sym e in
    ap (record_join strict as_ o bs p) q ∙ given (allowed strict as_ o bs p js) (record_type js r) a

strong_step : (a : Ty) → Parts Strengthens a → Strengthens a
strong_step never p b v w = λ h k. refl
strong_step (bool_type x) p never v w = λ h k. refl
strong_step long_type p never v w = λ h k. refl
strong_step string_type p never v w = λ h k. refl
strong_step any_entity p never v w = λ h k. refl
strong_step (entity_types ns) p never v w = λ h k. refl
strong_step any_set p never v w = λ h k. refl
strong_step (set_type t) p never v w = λ h k. refl
strong_step (record_type as_ o) p never v w = λ h k. refl
strong_step (extension_type n) p never v w = λ h k. refl
strong_step (bool_type x) p (bool_type y) v w = λ h k. refl
strong_step long_type p long_type v w = λ h k. refl
strong_step string_type p string_type v w = λ h k. refl
strong_step any_entity p any_entity v w = λ h k. refl
strong_step any_entity p (entity_types ms) v w = λ h k. no_lie k
strong_step (entity_types ns) p any_entity v w = λ h k. no_lie h
strong_step (entity_types ns) p (entity_types ms) v w = λ h k. given (are_among ns ms && are_among ms ns) (entity_types (names_of_both ns ms)) (union_strong ns ms h k)
strong_step any_set p any_set v w = λ h k. refl
strong_step any_set p (set_type b) v w = λ h k. refl
strong_step (set_type a) p any_set v w = λ h k. refl
strong_step (set_type a) p (set_type b) v w = map_strong a b (join permissive a b) (join strict a b) (p b v w)
strong_step (record_type as_ o) parts (record_type bs p) v w = records_strong as_ o bs p parts v w (attributes_join permissive as_ bs) refl
strong_step (extension_type k) p (extension_type n) v w =
    if_given (λ j. Below strict (extension_type k) j → Below strict (extension_type n) j → join strict (extension_type k) (extension_type n) ≡ Some j) (name_eq k n) (extension_type k) (λ e h l. given (name_eq k n) (extension_type k) e)
strong_step a p b v w = tt

pub strict_join_where : (a b j : Ty) → is_well_formed_type a ≡ true → is_well_formed_type b ≡ true → join permissive a b ≡ Some j → Below strict a j → Below strict b j → join strict a b ≡ Some j
strict_join_where a b j v w e = for_some (λ x. Below strict a x → Below strict b x → join strict a b ≡ Some x) (join permissive a b) j (each_type Strengthens strong_step a b v w) e

pub strict_join_exactly : (a b j : Ty) → is_well_formed_type a ≡ true → is_well_formed_type b ≡ true → (join strict a b ≡ Some j) ↔ ((join permissive a b ≡ Some j) × Below strict a j × Below strict b j)
strict_join_exactly a b j v w = (
  λ e. let u = join_above strict a b j v w e in (strict_join_same a b j v w e, u.0, u.1),
  λ h. strict_join_where a b j v w h.0 h.1 h.2,
)
