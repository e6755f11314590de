-- Subtypes.
use Rattle.std.proofs.Common.{◌≡◌, List, Bool, true, false, not, ◌&&◌, ◌||◌, Option, Some, None, is_some, refl, sym, ap, ◌∙◌, subst}
use Rattle.cedar_expr_model.specs.Name.{Text, Name, name_eq}
use Rattle.cedar_expr_model.proofs.Equality.{name_eq-Decides, name_eq_same}
use Rattle.cedar_expr_model.proofs.Lists.{both_hold, hold_both}
use Rattle.cedar_schema_model.specs.Types.{BoolType, any_bool, only_true, only_false, Openness, is_open, is_closed, Ty, never, bool_type, long_type, string_type, any_entity, entity_types, any_set, set_type, record_type, extension_type, Attributes, no_attributes, attribute, Declared, attribute_named, Mode, strict, permissive}
use Rattle.cedar_schema_model.specs.Subtype.{is_permissive, is_closed_record, are_among, are_named, carries, is_bool_below, is_union_below, is_frame_below, is_declared_below, is_subtype, have_below}
use Rattle.cedar_schema_model.specs.OfLaws.Formed.{Below, is_well_formed_type}
use Rattle.cedar_schema_model.proofs.Types.Names.{among_on, among_same, same_union}
use Rattle.cedar_schema_model.proofs.Types.Lookups.{no_lie, no_none, inside, from_some, some_is, declares, named_first, named_cases, still_named, each_type, Parts, Formed, formed_parts, formed_at, same_attributes}

-- what is carried
pub carries_same : (m : Mode) (x : Bool) → carries m x x ≡ true
carries_same permissive true = refl
carries_same permissive false = refl
carries_same strict true = refl
carries_same strict false = refl

pub carries_on : (m : Mode) (x y z : Bool) → carries m x y ≡ true → carries m y z ≡ true → carries m x z ≡ true
carries_on permissive true y true h k = refl
carries_on permissive true y false h k = refl
carries_on permissive false true z h k = no_lie h
carries_on permissive false false true h k = no_lie k
carries_on permissive false false false h k = refl
carries_on strict true true z h k = k
carries_on strict true false z h k = no_lie h
carries_on strict false true z h k = no_lie h
carries_on strict false false z h k = k

pub carries_both : (m : Mode) (x y : Bool) → carries m x y ≡ true → carries m y x ≡ true → x ≡ y
carries_both m true true h k = refl
carries_both m false false h k = refl
carries_both permissive true false h k = no_lie k
carries_both permissive false true h k = no_lie h
carries_both strict true false h k = no_lie k
carries_both strict false true h k = no_lie h

pub carries_weaker : (x y : Bool) → carries strict x y ≡ true → carries permissive x y ≡ true
carries_weaker true true h = refl
carries_weaker true false h = no_lie h
carries_weaker false true h = no_lie h
carries_weaker false false h = refl

-- what the first attributes declare below a declaration
abbrev pub Found : Mode → Attributes → Text → Declared → Type 0
Found m as_ n e = (d : Declared) × (attribute_named n as_ ≡ Some d) × Below m d.type e.type × (carries m d.is_required e.is_required ≡ true)

pub declared_found : (m : Mode) (t : Ty) (r : Bool) (o : Option Declared) → is_declared_below m (λ a. is_subtype m a t) r o ≡ true → (d : Declared) × (o ≡ Some d) × Below m d.type t × (carries m d.is_required r ≡ true)
declared_found m t r None h = no_lie h
declared_found m t r (Some d) h = let p = both_hold (is_subtype m d.type t) (carries m d.is_required r) h in (d, refl, p.0, p.1)

pub found_declared : (m : Mode) (t : Ty) (r : Bool) (o : Option Declared) (d : Declared) → o ≡ Some d → Below m d.type t → carries m d.is_required r ≡ true → is_declared_below m (λ a. is_subtype m a t) r o ≡ true
found_declared m t r o d e h k = subst (λ x. is_declared_below m (λ a. is_subtype m a t) r x ≡ true) (sym e) (hold_both (is_subtype m d.type t) (carries m d.is_required r) h k)

pub have_parts : (m : Mode) (as_ : Attributes) (n : Text) (t : Ty) (r : Bool) (bs : Attributes) → have_below m as_ (attribute n t r bs) ≡ true → (is_declared_below m (λ a. is_subtype m a t) r (attribute_named n as_) ≡ true) × (have_below m as_ bs ≡ true)
have_parts m as_ n t r bs h = both_hold (is_declared_below m (λ a. is_subtype m a t) r (attribute_named n as_)) (have_below m as_ bs) h

pub have_at : (m : Mode) (as_ bs : Attributes) → have_below m as_ bs ≡ true → (n : Text) (e : Declared) → attribute_named n bs ≡ Some e → Found m as_ n e
have_at m as_ no_attributes h n e k = no_none k
have_at m as_ (attribute b t r bs) h n e k =
    let p = have_parts m as_ b t r bs h in
    named_cases n b t r bs e k
    (λ q x. subst (λ y. Found m as_ n y) x (subst (λ y. Found m as_ y (declares t r)) (sym q) (declared_found m t r (attribute_named b as_) p.0)))
    (λ q x. have_at m as_ bs p.1 n e x)

pub have_from : (m : Mode) (as_ bs : Attributes) → Formed bs → ((n : Text) (e : Declared) → attribute_named n bs ≡ Some e → Found m as_ n e) → have_below m as_ bs ≡ true
have_from m as_ no_attributes w h = refl
have_from m as_ (attribute b t r bs) w h =
    let f = h b (declares t r) (named_first b t r bs) in
    hold_both (is_declared_below m (λ a. is_subtype m a t) r (attribute_named b as_)) (have_below m as_ bs)
    (found_declared m t r (attribute_named b as_) f.0 f.1 f.2 f.3)
    (have_from m as_ bs (formed_parts b t r bs w).2 (λ n e k. h n e (still_named n b t r bs e w k)))

-- names of the one that are names of the other
pub named_at : (as_ bs : Attributes) → are_named as_ bs ≡ true → (n : Text) (d : Declared) → attribute_named n as_ ≡ Some d → (e : Declared) × (attribute_named n bs ≡ Some e)
named_at no_attributes bs h n d k = no_none k
named_at (attribute b t r as_) bs h n d k =
    let p = both_hold (is_some (attribute_named b bs)) (are_named as_ bs) h in
    named_cases n b t r as_ d k
    (λ q x. subst (λ y. (e : Declared) × (attribute_named y bs ≡ Some e)) (sym q) (from_some (attribute_named b bs) p.0))
    (λ q x. named_at as_ bs p.1 n d x)

pub named_from : (as_ bs : Attributes) → Formed as_ → ((n : Text) (d : Declared) → attribute_named n as_ ≡ Some d → (e : Declared) × (attribute_named n bs ≡ Some e)) → are_named as_ bs ≡ true
named_from no_attributes bs w h = refl
named_from (attribute b t r as_) bs w h =
    let f = h b (declares t r) (named_first b t r as_) in
    hold_both (is_some (attribute_named b bs)) (are_named as_ bs)
    (some_is (attribute_named b bs) f.0 f.1)
    (named_from as_ bs (formed_parts b t r as_ w).2 (λ n d k. h n d (still_named n b t r as_ d w k)))

-- names of names of names; no need of order
named_on : (as_ bs cs : Attributes) → are_named as_ bs ≡ true → are_named bs cs ≡ true → are_named as_ cs ≡ true
named_on no_attributes bs cs h k = refl
named_on (attribute b t r as_) bs cs h k =
    let p = both_hold (is_some (attribute_named b bs)) (are_named as_ bs) h in
    let f = from_some (attribute_named b bs) p.0 in
    let g = named_at bs cs k b f.0 f.1 in
    hold_both (is_some (attribute_named b cs)) (are_named as_ cs) (some_is (attribute_named b cs) g.0 g.1) (named_on as_ bs cs p.1 k)

-- frames
pub strict_frame : (as_ : Attributes) (o : Openness) (bs : Attributes) (p : Openness) → is_frame_below strict as_ o bs p ≡ true → (o ≡ p) × (are_named as_ bs ≡ true)
strict_frame as_ is_open bs is_open h = (refl, h)
strict_frame as_ is_open bs is_closed h = no_lie h
strict_frame as_ is_closed bs is_open h = no_lie h
strict_frame as_ is_closed bs is_closed h = (refl, h)

pub from_strict_frame : (as_ : Attributes) (o : Openness) (bs : Attributes) → are_named as_ bs ≡ true → is_frame_below strict as_ o bs o ≡ true
from_strict_frame as_ is_open bs h = h
from_strict_frame as_ is_closed bs h = h

pub closed_frame : (as_ : Attributes) (o : Openness) (bs : Attributes) → is_frame_below permissive as_ o bs is_closed ≡ true → (o ≡ is_closed) × (are_named as_ bs ≡ true)
closed_frame as_ is_open bs h = no_lie h
closed_frame as_ is_closed bs h = (refl, h)

pub open_frame : (as_ : Attributes) (o : Openness) (bs : Attributes) → is_frame_below permissive as_ o bs is_open ≡ true
open_frame as_ is_open bs = refl
open_frame as_ is_closed bs = refl

pub from_closed_frame : (as_ : Attributes) (o : Openness) (bs : Attributes) → o ≡ is_closed → are_named as_ bs ≡ true → is_frame_below permissive as_ o bs is_closed ≡ true
from_closed_frame as_ o bs e h = subst (λ x. is_frame_below permissive as_ x bs is_closed ≡ true) (sym e) h

frame_same : (m : Mode) (as_ : Attributes) (o : Openness) → are_named as_ as_ ≡ true → is_frame_below m as_ o as_ o ≡ true
frame_same strict as_ o h = from_strict_frame as_ o as_ h
frame_same permissive as_ is_open h = refl
frame_same permissive as_ is_closed h = h

frame_on : (m : Mode) (as_ bs cs : Attributes) (o p q : Openness) → is_frame_below m as_ o bs p ≡ true → is_frame_below m bs p cs q ≡ true → is_frame_below m as_ o cs q ≡ true
frame_on strict as_ bs cs o p q h k =
    let f = strict_frame as_ o bs p h in
    let g = strict_frame bs p cs q k in
    subst (λ x. is_frame_below strict as_ o cs x ≡ true) (f.0 ∙ g.0) (from_strict_frame as_ o cs (named_on as_ bs cs f.1 g.1))
frame_on permissive as_ bs cs o p is_open h k = open_frame as_ o cs
frame_on permissive as_ bs cs o p is_closed h k =
    let g = closed_frame bs p cs k in
    let f = closed_frame as_ o bs (subst (λ x. is_frame_below permissive as_ o bs x ≡ true) g.0 h) in
    from_closed_frame as_ o cs f.0 (named_on as_ bs cs f.1 g.1)

frame_weaker : (as_ bs : Attributes) (o p : Openness) → is_frame_below strict as_ o bs p ≡ true → is_frame_below permissive as_ o bs p ≡ true
frame_weaker as_ bs o is_open h = open_frame as_ o bs
frame_weaker as_ bs o is_closed h = let f = strict_frame as_ o bs is_closed h in from_closed_frame as_ o bs f.0 f.1

-- Booleans, names
bool_on : (x y z : BoolType) → is_bool_below x y ≡ true → is_bool_below y z ≡ true → is_bool_below x z ≡ true
bool_on x any_bool any_bool h k = refl
bool_on only_true only_true z h k = k
bool_on only_false only_false z h k = k
bool_on x any_bool only_true h k = no_lie k
bool_on x any_bool only_false h k = no_lie k
bool_on x y z h k = no_lie h

pub bool_same : (x : BoolType) → is_bool_below x x ≡ true
bool_same any_bool = refl
bool_same only_true = refl
bool_same only_false = refl

bool_both : (x y : BoolType) → is_bool_below x y ≡ true → is_bool_below y x ≡ true → x ≡ y
bool_both any_bool any_bool h k = refl
bool_both only_true only_true h k = refl
bool_both only_false only_false h k = refl
bool_both only_true any_bool h k = no_lie k
bool_both only_false any_bool h k = no_lie k
bool_both x y h k = no_lie h

union_same : (m : Mode) (ns : List Name) → is_union_below m ns ns ≡ true
union_same permissive ns = among_same ns
union_same strict ns = hold_both (are_among ns ns) (are_among ns ns) (among_same ns) (among_same ns)

pub union_weaker : (m : Mode) (ns ms : List Name) → is_union_below m ns ms ≡ true → are_among ns ms ≡ true
union_weaker permissive ns ms h = h
union_weaker strict ns ms h = (both_hold (are_among ns ms) (are_among ms ns) h).0

union_on : (m : Mode) (as_ bs cs : List Name) → is_union_below m as_ bs ≡ true → is_union_below m bs cs ≡ true → is_union_below m as_ cs ≡ true
union_on permissive as_ bs cs h k = among_on as_ bs cs h k
union_on strict as_ bs cs h k =
    let p = both_hold (are_among as_ bs) (are_among bs as_) h in
    let q = both_hold (are_among bs cs) (are_among cs bs) k in
    hold_both (are_among as_ cs) (are_among cs as_) (among_on as_ bs cs p.0 q.0) (among_on cs bs as_ q.1 p.1)

name_on : (x y z : Name) → name_eq x y ≡ true → name_eq y z ≡ true → name_eq x z ≡ true
name_on x y z h k = subst (λ n. name_eq x n ≡ true) ((name_eq-Decides y z).0 k) h

pub record_parts : (m : Mode) (as_ : Attributes) (o : Openness) (bs : Attributes) (p : Openness) → Below m (record_type as_ o) (record_type bs p) → (is_frame_below m as_ o bs p ≡ true) × (have_below m as_ bs ≡ true)
record_parts m as_ o bs p h = both_hold (is_frame_below m as_ o bs p) (have_below m as_ bs) h

mutual
  pub below_on : (m : Mode) (c a b : Ty) → Below m a b → Below m b c → Below m a c
  below_on m c never b h k = refl
  below_on m (bool_type z) (bool_type x) (bool_type y) h k = bool_on x y z h k
  below_on m c (bool_type x) (bool_type y) h k = no_lie k
  below_on m c long_type long_type h k = k
  below_on m c string_type string_type h k = k
  below_on m c any_entity any_entity h k = k
  below_on m any_entity (entity_types ns) any_entity h k = h
  below_on m c (entity_types ns) any_entity h k = no_lie k
  below_on m any_entity (entity_types ns) (entity_types ms) h k = k
  below_on m (entity_types ks) (entity_types ns) (entity_types ms) h k = union_on m ns ms ks h k
  below_on m c (entity_types ns) (entity_types ms) h k = no_lie k
  below_on m c any_set any_set h k = k
  below_on m any_set (set_type a) b h k = refl
  below_on m (set_type c) (set_type a) (set_type b) h k = below_on m c a b h k
  below_on m c (set_type a) any_set h k = no_lie k
  below_on m c (set_type a) (set_type b) h k = no_lie k
  below_on m (record_type cs q) (record_type as_ o) (record_type bs p) h k =
      let f = record_parts m as_ o bs p h in
      let g = record_parts m bs p cs q k in
      hold_both (is_frame_below m as_ o cs q) (have_below m as_ cs) (frame_on m as_ bs cs o p q f.0 g.0) (have_on m cs as_ bs f.1 g.1)
  below_on m c (record_type as_ o) (record_type bs p) h k = no_lie k
  below_on m (extension_type z) (extension_type x) (extension_type y) h k = name_on x y z h k
  below_on m c (extension_type x) (extension_type y) h k = no_lie k
  below_on m c a b h k = no_lie h

  have_on : (m : Mode) (cs as_ bs : Attributes) → have_below m as_ bs ≡ true → have_below m bs cs ≡ true → have_below m as_ cs ≡ true
  have_on m no_attributes as_ bs h k = refl
  have_on m (attribute n t r cs) as_ bs h k =
      let p = have_parts m bs n t r cs k in
      let f = declared_found m t r (attribute_named n bs) p.0 in
      let g = have_at m as_ bs h n f.0 f.1 in
      hold_both (is_declared_below m (λ a. is_subtype m a t) r (attribute_named n as_)) (have_below m as_ cs)
      (found_declared m t r (attribute_named n as_) g.0 g.1 (below_on m t g.0.type f.0.type g.2 f.2) (carries_on m g.0.is_required f.0.is_required r g.3 f.3))
      (have_on m cs as_ bs h p.1)

-- a type is below itself
same_step : (m : Mode) (a : Ty) → Parts (λ t. is_well_formed_type t ≡ true → Below m t t) a → is_well_formed_type a ≡ true → Below m a a
same_step m never p w = refl
same_step m (bool_type x) p w = bool_same x
same_step m long_type p w = refl
same_step m string_type p w = refl
same_step m any_entity p w = refl
same_step m (entity_types ns) p w = union_same m ns
same_step m any_set p w = refl
same_step m (set_type t) p w = p w
same_step m (record_type as_ o) p w =
    hold_both (is_frame_below m as_ o as_ o) (have_below m as_ as_)
    (frame_same m as_ o (named_from as_ as_ w (λ n d e. (d, e))))
    (have_from m as_ as_ w (λ n d e. (d, e, p n d e (formed_at as_ w n d e), carries_same m d.is_required)))
same_step m (extension_type n) p w = name_eq_same n

pub below_same : (m : Mode) (a : Ty) → is_well_formed_type a ≡ true → Below m a a
below_same m = each_type (λ t. is_well_formed_type t ≡ true → Below m t t) (same_step m)

-- the strict order says more
mutual
  pub below_weaker : (b a : Ty) → Below strict a b → Below permissive a b
  below_weaker b never h = refl
  below_weaker (bool_type y) (bool_type x) h = h
  below_weaker long_type long_type h = refl
  below_weaker string_type string_type h = refl
  below_weaker any_entity any_entity h = refl
  below_weaker any_entity (entity_types ns) h = refl
  below_weaker (entity_types ms) (entity_types ns) h = union_weaker strict ns ms h
  below_weaker any_set any_set h = refl
  below_weaker any_set (set_type a) h = refl
  below_weaker (set_type b) (set_type a) h = below_weaker b a h
  below_weaker (record_type bs p) (record_type as_ o) h =
      let f = record_parts strict as_ o bs p h in
      hold_both (is_frame_below permissive as_ o bs p) (have_below permissive as_ bs) (frame_weaker as_ bs o p f.0) (have_weaker bs as_ f.1)
  below_weaker (extension_type n) (extension_type k) h = h
  below_weaker b a h = no_lie h

  have_weaker : (bs as_ : Attributes) → have_below strict as_ bs ≡ true → have_below permissive as_ bs ≡ true
  have_weaker no_attributes as_ h = refl
  have_weaker (attribute n t r bs) as_ h =
      let p = have_parts strict as_ n t r bs h in
      let f = declared_found strict t r (attribute_named n as_) p.0 in
      hold_both (is_declared_below permissive (λ a. is_subtype permissive a t) r (attribute_named n as_)) (have_below permissive as_ bs)
      (found_declared permissive t r (attribute_named n as_) f.0 f.1 (below_weaker t f.0.type f.2) (carries_weaker f.0.is_required r f.3))
      (have_weaker bs as_ p.1)

-- types below each other
closed_same : (o p : Openness) → is_closed_record o ≡ is_closed_record p → o ≡ p
closed_same is_open is_open e = refl
closed_same is_open is_closed e = no_lie e
closed_same is_closed is_open e = no_lie (sym e)
closed_same is_closed is_closed e = refl

pub frame_closed : (m : Mode) (as_ : Attributes) (o : Openness) (bs : Attributes) (p : Openness) → is_frame_below m as_ o bs p ≡ true → carries m (is_closed_record o) (is_closed_record p) ≡ true
frame_closed m as_ o bs p h = (both_hold (carries m (is_closed_record o) (is_closed_record p)) ((is_permissive m && not (is_closed_record p)) || are_named as_ bs) h).0

pub same_declared : (d e : Declared) → d.type ≡ e.type → d.is_required ≡ e.is_required → d ≡ e
same_declared d e p q = λ i. record { type = p i; is_required = q i }

pub same_options : {X : Type 0} (x y : Option X) → ((d : X) → x ≡ Some d → y ≡ Some d) → ((d : X) → y ≡ Some d → x ≡ Some d) → x ≡ y
same_options None None h k = refl
same_options None (Some d) h k = k d refl
same_options (Some d) y h k = sym (h d refl)

abbrev BelowBoth : Mode → Ty → Type 0
BelowBoth m a = (b : Ty) → is_well_formed_type a ≡ true → is_well_formed_type b ≡ true → Below m a b → Below m b a → a ≡ b

declared_both : (m : Mode) (as_ bs : Attributes) → ((n : Text) (d : Declared) → attribute_named n as_ ≡ Some d → BelowBoth m d.type) → Formed as_ → Formed bs → have_below m as_ bs ≡ true → have_below m bs as_ ≡ true → (n : Text) (d : Declared) → attribute_named n as_ ≡ Some d → attribute_named n bs ≡ Some d
declared_both m as_ bs p v w h k n d e =
    let f = have_at m bs as_ k n d e in
    let g = have_at m as_ bs h n f.0 f.1 in
    let q : g.0 ≡ d = inside (sym g.1 ∙ e) in
    let below : Below m d.type f.0.type = subst (λ (x : Declared). Below m x.type f.0.type) q g.2 in
    let less : carries m d.is_required f.0.is_required ≡ true = subst (λ (x : Declared). carries m x.is_required f.0.is_required ≡ true) q g.3 in
    let t = p n d e f.0.type (formed_at as_ v n d e) (formed_at bs w n f.0 f.1) below f.2 in
    f.1 ∙ ap Some (sym (same_declared d f.0 t (carries_both m d.is_required f.0.is_required less f.3)))

declared_back : (m : Mode) (as_ bs : Attributes) → have_below m as_ bs ≡ true → ((n : Text) (d : Declared) → attribute_named n as_ ≡ Some d → attribute_named n bs ≡ Some d) → (n : Text) (d : Declared) → attribute_named n bs ≡ Some d → attribute_named n as_ ≡ Some d
declared_back m as_ bs h same n d e =
    let f = have_at m as_ bs h n d e in
    f.1 ∙ ap Some (inside (sym (same n f.0 f.1) ∙ e))

both_step : (m : Mode) (a : Ty) → Parts (BelowBoth m) a → BelowBoth m a
both_step m never p never v w h k = refl
both_step m (bool_type x) p (bool_type y) v w h k = ap bool_type (bool_both x y h k)
both_step m long_type p long_type v w h k = refl
both_step m string_type p string_type v w h k = refl
both_step m any_entity p any_entity v w h k = refl
both_step m (entity_types ns) p (entity_types ms) v w h k = ap entity_types (same_union ns ms v w (union_weaker m ns ms h) (union_weaker m ms ns k))
both_step m any_set p any_set v w h k = refl
both_step m (set_type t) p (set_type u) v w h k = ap set_type (p u v w h k)
both_step m (record_type as_ o) p (record_type bs q) v w h k =
    let f = record_parts m as_ o bs q h in
    let g = record_parts m bs q as_ o k in
    let same = declared_both m as_ bs p v w f.1 g.1 in
    let e = same_attributes as_ bs v w (λ n. same_options (attribute_named n as_) (attribute_named n bs) (same n) (declared_back m as_ bs f.1 same n)) in
    let c = closed_same o q (carries_both m (is_closed_record o) (is_closed_record q) (frame_closed m as_ o bs q f.0) (frame_closed m bs q as_ o g.0)) in
    λ i. record_type (e i) (c i)
both_step m (extension_type x) p (extension_type y) v w h k = ap extension_type ((name_eq-Decides x y).0 h)
both_step m never p b v w h k = no_lie k
both_step m any_entity p (entity_types ms) v w h k = no_lie h
both_step m any_set p (set_type u) v w h k = no_lie h
both_step m (entity_types ns) p any_entity v w h k = no_lie k
both_step m (set_type t) p any_set v w h k = no_lie k
both_step m a p b v w h k = no_lie h

pub below_both : (m : Mode) (a b : Ty) → is_well_formed_type a ≡ true → is_well_formed_type b ≡ true → Below m a b → Below m b a → a ≡ b
below_both m = each_type (BelowBoth m) (both_step m)
