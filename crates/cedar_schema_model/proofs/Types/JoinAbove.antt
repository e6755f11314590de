-- A join is above both types.
use Rattle.std.proofs.Common.{◌≡◌, ⊎_elim, List, Bool, true, false, ◌&&◌, ◌||◌, Option, Some, None, IfSome, option_map, refl, sym, ap, ◌∙◌, subst}
use Rattle.cedar_expr_model.specs.Name.{Text, Name, name_eq}
use Rattle.cedar_expr_model.proofs.Equality.{name_eq-Decides, name_eq_same}
use Rattle.cedar_expr_model.proofs.Lists.{both_hold, hold_both}
use Rattle.cedar_schema_model.specs.Types.{BoolType, any_bool, only_true, only_false, Openness, is_open, is_closed, Ty, never, bool_type, long_type, string_type, any_entity, entity_types, any_set, set_type, record_type, extension_type, Attributes, Declared, attribute_named, Mode, strict, permissive}
use Rattle.cedar_schema_model.specs.Subtype.{is_permissive, is_closed_record, are_among, are_named, carries, is_bool_below, is_union_below, is_frame_below, have_below}
use Rattle.cedar_schema_model.specs.OfLaws.Formed.{Below, is_union, is_well_formed_type}
use Rattle.cedar_schema_model.specs.Join.{bool_join, names_of_both, agree, all_stayed, join, attributes_join}
use Rattle.cedar_schema_model.proofs.Types.Lookups.{no_lie, each_type, Parts, Formed, formed_at}
use Rattle.cedar_schema_model.proofs.Types.Names.{among_at, among_from, union_parts, both_in, both_left, both_right}
use Rattle.cedar_schema_model.proofs.Types.Subtypes.{Found, have_from, below_same, bool_same, open_frame, from_closed_frame, from_strict_frame}
use Rattle.cedar_schema_model.proofs.Types.JoinParts.{if_given, for_some, joint, join_named, first_carries, second_carries}
use Rattle.cedar_schema_model.proofs.Types.JoinFormed.{attributes_formed}
use Rattle.cedar_schema_model.proofs.Named.{openness_of_join}

abbrev AboveBoth : Mode → Ty → Ty → Option Ty → Type 0
AboveBoth m a b o = IfSome o (λ j. Below m a j × Below m b j)

bool_left : (x y : BoolType) → is_bool_below x (bool_join x y) ≡ true
bool_left only_true only_true = refl
bool_left only_false only_false = refl
bool_left only_true only_false = refl
bool_left only_true any_bool = refl
bool_left only_false only_true = refl
bool_left only_false any_bool = refl
bool_left any_bool y = refl

bool_right : (x y : BoolType) → is_bool_below y (bool_join x y) ≡ true
bool_right only_true only_true = refl
bool_right only_false only_false = refl
bool_right only_true only_false = refl
bool_right only_true any_bool = refl
bool_right only_false only_true = refl
bool_right only_false any_bool = refl
bool_right any_bool y = refl

-- unions
union_above : (m : Mode) (ns ms : List Name) → is_union ns ≡ true → is_union ms ≡ true → (is_permissive m || (are_among ns ms && are_among ms ns)) ≡ true → is_union_below m ns (names_of_both ns ms) ≡ true × is_union_below m ms (names_of_both ns ms) ≡ true
union_above permissive ns ms v w e =
    let p = union_parts ns v in
    let q = union_parts ms w in
    (among_from ns (names_of_both ns ms) (both_left ns ms p.0 q.0), among_from ms (names_of_both ns ms) (both_right ns ms))
union_above strict ns ms v w e =
    let p = union_parts ns v in
    let q = union_parts ms w in
    let f = both_hold (are_among ns ms) (are_among ms ns) e in
    let both = names_of_both ns ms in (
      hold_both (are_among ns both) (are_among both ns) (among_from ns both (both_left ns ms p.0 q.0))
          (among_from both ns (λ x k. ⊎_elim (λ i. i) (λ i. among_at ms ns f.1 x i) (both_in ns ms x k))),
      hold_both (are_among ms both) (are_among both ms) (among_from ms both (both_right ns ms))
          (among_from both ms (λ x k. ⊎_elim (λ i. among_at ns ms f.0 x i) (λ i. i) (both_in ns ms x k))),
    )

map_above : (m : Mode) (a b : Ty) (o : Option Ty) → AboveBoth m a b o → AboveBoth m (set_type a) (set_type b) (option_map set_type o)
map_above m a b None h = tt
map_above m a b (Some j) h = h

-- records: what of one side is found in the join
abbrev AboveAll : Mode → Ty → Type 0
AboveAll m a = (b : Ty) → is_well_formed_type a ≡ true → is_well_formed_type b ≡ true → AboveBoth m a b (join m a b)

module _ (m : Mode) (as_ bs : Attributes) (parts : (n : Text) (d : Declared) → attribute_named n as_ ≡ Some d → AboveAll m d.type) (v : Formed as_) (w : Formed bs) where
  found_both : (n : Text) (e : Declared) → attribute_named n (attributes_join m as_ bs) ≡ Some e → Found m as_ n e × Found m bs n e
  found_both n e h =
      let k = joint m (attribute_named n as_) (attribute_named n bs) e (sym (join_named m as_ bs v n) ∙ h) in
      let d = k.first in
      let c = k.second in
      let above = for_some (λ j. Below m d.type j × Below m c.type j) (join m d.type c.type) e.type
      (parts n d k.first_is c.type (formed_at as_ v n d k.first_is) (formed_at bs w n c k.second_is)) k.types in (
        (d, k.first_is, above.0, subst (λ x. carries m d.is_required x ≡ true) k.required (first_carries m d.is_required c.is_required k.flags)),
        (c, k.second_is, above.1, subst (λ x. carries m c.is_required x ≡ true) k.required (second_carries m d.is_required c.is_required k.flags)),
      )

  pub have_first : have_below m as_ (attributes_join m as_ bs) ≡ true
  have_first = have_from m as_ (attributes_join m as_ bs) (attributes_formed m as_ bs v w) (λ n e h. (found_both n e h).0)

  pub have_second : have_below m bs (attributes_join m as_ bs) ≡ true
  have_second = have_from m bs (attributes_join m as_ bs) (attributes_formed m as_ bs v w) (λ n e h. (found_both n e h).1)

-- frames
closed_is : (o : Openness) → is_closed_record o ≡ true → o ≡ is_closed
closed_is is_open e = no_lie e
closed_is is_closed e = refl

frame_by : (as_ : Attributes) (o : Openness) (js : Attributes) (c : Bool) → (c ≡ true → (o ≡ is_closed) × (are_named as_ js ≡ true)) → is_frame_below permissive as_ o js (openness_of_join c) ≡ true
frame_by as_ o js true h = let f = h refl in from_closed_frame as_ o js f.0 f.1
frame_by as_ o js false h = open_frame as_ o js

-- the openness of a join
abbrev pub opened : Attributes → Openness → Attributes → Openness → Attributes → Openness
opened as_ o bs p js = openness_of_join (is_closed_record o && (is_closed_record p && all_stayed as_ bs js))

abbrev pub allowed : Mode → Attributes → Openness → Attributes → Openness → Attributes → Bool
allowed m as_ o bs p js = agree m (is_closed_record o) (is_closed_record p) && (is_permissive m || all_stayed as_ bs js)

strict_opened : (o p : Openness) (s : Bool) → agree strict (is_closed_record o) (is_closed_record p) ≡ true → s ≡ true → (openness_of_join (is_closed_record o && (is_closed_record p && s)) ≡ o) × (openness_of_join (is_closed_record o && (is_closed_record p && s)) ≡ p)
strict_opened is_open is_open s h e = (refl, refl)
strict_opened is_open is_closed s h e = no_lie h
strict_opened is_closed is_open s h e = no_lie h
strict_opened is_closed is_closed s h e = (ap openness_of_join e, ap openness_of_join e)

pub strict_allowed : (as_ : Attributes) (o : Openness) (bs : Attributes) (p : Openness) (js : Attributes) → allowed strict as_ o bs p js ≡ true → (opened as_ o bs p js ≡ o) × (opened as_ o bs p js ≡ p) × (are_named as_ js ≡ true) × (are_named bs js ≡ true)
strict_allowed as_ o bs p js h =
    let f = both_hold (agree strict (is_closed_record o) (is_closed_record p)) (all_stayed as_ bs js) h in
    let g = both_hold (are_named as_ js) (are_named bs js) f.1 in
    let q = strict_opened o p (all_stayed as_ bs js) f.0 f.1 in
    (q.0, q.1, g.0, g.1)

pub opened_closed : (as_ : Attributes) (o : Openness) (bs : Attributes) (p : Openness) (js : Attributes) → (is_closed_record o && (is_closed_record p && all_stayed as_ bs js)) ≡ true → (o ≡ is_closed) × (p ≡ is_closed) × (are_named as_ js ≡ true) × (are_named bs js ≡ true)
opened_closed as_ o bs p js e =
    let f = both_hold (is_closed_record o) (is_closed_record p && all_stayed as_ bs js) e in
    let g = both_hold (is_closed_record p) (all_stayed as_ bs js) f.1 in
    let k = both_hold (are_named as_ js) (are_named bs js) g.1 in
    (closed_is o f.0, closed_is p g.0, k.0, k.1)

frames_above : (m : Mode) (as_ : Attributes) (o : Openness) (bs : Attributes) (p : Openness) (js : Attributes) → allowed m as_ o bs p js ≡ true → (is_frame_below m as_ o js (opened as_ o bs p js) ≡ true) × (is_frame_below m bs p js (opened as_ o bs p js) ≡ true)
frames_above permissive as_ o bs p js h =
    let c = is_closed_record o && (is_closed_record p && all_stayed as_ bs js) in (
      frame_by as_ o js c (λ e. let f = opened_closed as_ o bs p js e in (f.0, f.2)),
      frame_by bs p js c (λ e. let f = opened_closed as_ o bs p js e in (f.1, f.3)),
    )
frames_above strict as_ o bs p js h =
    let f = strict_allowed as_ o bs p js h in (
      subst (λ x. is_frame_below strict as_ o js x ≡ true) (sym f.0) (from_strict_frame as_ o js f.2),
      subst (λ x. is_frame_below strict bs p js x ≡ true) (sym f.1) (from_strict_frame bs p js f.3),
    )

above_step : (m : Mode) (a : Ty) → Parts (AboveAll m) a → AboveAll m a
above_step m never p b v w = (refl, below_same m b w)
above_step m (bool_type x) p never v w = (bool_same x, refl)
above_step m long_type p never v w = (refl, refl)
above_step m string_type p never v w = (refl, refl)
above_step m any_entity p never v w = (refl, refl)
above_step m (entity_types ns) p never v w = (below_same m (entity_types ns) v, refl)
above_step m any_set p never v w = (refl, refl)
above_step m (set_type t) p never v w = (below_same m t v, refl)
above_step m (record_type as_ o) p never v w = (below_same m (record_type as_ o) v, refl)
above_step m (extension_type n) p never v w = (name_eq_same n, refl)
above_step m (bool_type x) p (bool_type y) v w = (bool_left x y, bool_right x y)
above_step m long_type p long_type v w = (refl, refl)
above_step m string_type p string_type v w = (refl, refl)
above_step m any_entity p any_entity v w = (refl, refl)
above_step m any_entity p (entity_types ms) v w = if_given (λ j. Below m any_entity j × Below m (entity_types ms) j) (is_permissive m) any_entity (λ e. (refl, e))
above_step m (entity_types ns) p any_entity v w = if_given (λ j. Below m (entity_types ns) j × Below m any_entity j) (is_permissive m) any_entity (λ e. (e, refl))
above_step m (entity_types ns) p (entity_types ms) v w =
    if_given (λ j. Below m (entity_types ns) j × Below m (entity_types ms) j) (is_permissive m || (are_among ns ms && are_among ms ns)) (entity_types (names_of_both ns ms)) (union_above m ns ms v w)
above_step m any_set p any_set v w = (refl, refl)
above_step m any_set p (set_type b) v w = (refl, refl)
above_step m (set_type a) p any_set v w = (refl, refl)
above_step m (set_type a) p (set_type b) v w = map_above m a b (join m a b) (p b v w)
above_step m (record_type as_ o) parts (record_type bs p) v w =
    let js = attributes_join m as_ bs in
    let q = opened as_ o bs p js in
    if_given (λ j. Below m (record_type as_ o) j × Below m (record_type bs p) j) (allowed m as_ o bs p js) (record_type js q) (λ e.
    let f = frames_above m as_ o bs p js e in (
      hold_both (is_frame_below m as_ o js q) (have_below m as_ js) f.0 (have_first m as_ bs parts v w),
      hold_both (is_frame_below m bs p js q) (have_below m bs js) f.1 (have_second m as_ bs parts v w),
    ))
above_step m (extension_type k) p (extension_type n) v w =
    if_given (λ j. Below m (extension_type k) j × Below m (extension_type n) j) (name_eq k n) (extension_type k)
    (λ e. (name_eq_same k, (name_eq-Decides n k).1 (sym ((name_eq-Decides k n).0 e))))
above_step m a p b v w = tt

pub join_above : (m : Mode) (a b j : Ty) → is_well_formed_type a ≡ true → is_well_formed_type b ≡ true → join m a b ≡ Some j → Below m a j × Below m b j
join_above m a b j v w e = for_some (λ x. Below m a x × Below m b x) (join m a b) j (each_type (AboveAll m) (above_step m) a b v w) e
