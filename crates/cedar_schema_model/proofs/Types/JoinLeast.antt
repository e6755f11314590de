-- A join exists wherever an upper bound without `any_set` does, and is below it.
use Rattle.std.proofs.Common.{◌≡◌, ⊎_elim, List, true, ◌&&◌, ◌||◌, Some, is_some, option_map, refl, sym, ap, ◌∙◌, subst}
use Rattle.cedar_expr_model.specs.Name.{Text, Name, name_eq}
use Rattle.cedar_expr_model.proofs.Equality.{name_eq-Decides}
use Rattle.cedar_expr_model.proofs.Lists.{both_hold, hold_both, hold_left}
use Rattle.cedar_schema_model.specs.Types.{BoolType, any_bool, only_true, only_false, Openness, is_open, is_closed, Ty, never, bool_type, long_type, string_type, any_entity, entity_types, any_set, set_type, record_type, extension_type, Attributes, no_attributes, attribute, Declared, attribute_named, Mode, strict, permissive}
use Rattle.cedar_schema_model.specs.Subtype.{is_permissive, is_closed_record, are_among, are_named, is_bool_below, is_union_below, is_frame_below, is_declared_below, is_subtype, have_below}
use Rattle.cedar_schema_model.specs.OfLaws.Formed.{Below, is_union, is_well_formed_type}
use Rattle.cedar_schema_model.specs.TypeLaws.{has_no_any_set, have_no_any_set}
use Rattle.cedar_schema_model.specs.Join.{bool_join, names_of_both, agree, all_stayed, join, attributes_join}
use Rattle.cedar_schema_model.proofs.Types.Lookups.{no_lie, inside, some_is, declares, each_type, Parts, Formed, formed_at}
use Rattle.cedar_schema_model.proofs.Types.Names.{among_at, among_from, union_parts, both_in, both_left}
use Rattle.cedar_schema_model.proofs.Types.Subtypes.{Found, have_at, have_parts, declared_found, found_declared, named_at, named_from, record_parts, strict_frame, from_strict_frame, closed_frame, open_frame, from_closed_frame}
use Rattle.cedar_schema_model.proofs.Types.JoinParts.{given, joint, joins, join_named, agree_same, carries_agree, carries_and}
use Rattle.cedar_schema_model.proofs.Types.JoinFormed.{attributes_formed, free_at}
use Rattle.cedar_schema_model.proofs.Types.JoinAbove.{opened, allowed, strict_allowed}
use Rattle.cedar_schema_model.proofs.Named.{openness_of_join}

abbrev pub Joined : Mode → Ty → Ty → Ty → Type 0
Joined m a b c = (j : Ty) × (join m a b ≡ Some j) × Below m j c

abbrev Least : Mode → Ty → Type 0
Least m a = (b c : Ty) → is_well_formed_type a ≡ true → is_well_formed_type b ≡ true → has_no_any_set c ≡ true → Below m a c → Below m b c → Joined m a b c

bool_least : (x y z : BoolType) → is_bool_below x z ≡ true → is_bool_below y z ≡ true → is_bool_below (bool_join x y) z ≡ true
bool_least x y any_bool h k = refl
bool_least only_true only_true only_true h k = refl
bool_least only_false only_false only_false h k = refl
bool_least any_bool y only_true h k = no_lie h
bool_least any_bool y only_false h k = no_lie h
bool_least only_false y only_true h k = no_lie h
bool_least only_true y only_false h k = no_lie h
bool_least x any_bool only_true h k = no_lie k
bool_least x any_bool only_false h k = no_lie k
bool_least x only_false only_true h k = no_lie k
bool_least x only_true only_false h k = no_lie k

-- unions
union_joined : (m : Mode) (ns ms ks : List Name) → is_union ns ≡ true → is_union ms ≡ true → is_union_below m ns ks ≡ true → is_union_below m ms ks ≡ true → ((is_permissive m || (are_among ns ms && are_among ms ns)) ≡ true) × (is_union_below m (names_of_both ns ms) ks ≡ true)
union_joined permissive ns ms ks v w h k =
    (refl, among_from (names_of_both ns ms) ks (λ x i. ⊎_elim (among_at ns ks h x) (among_at ms ks k x) (both_in ns ms x i)))
union_joined strict ns ms ks v w h k =
    let f = both_hold (are_among ns ks) (are_among ks ns) h in
    let g = both_hold (are_among ms ks) (are_among ks ms) k in
    let both = names_of_both ns ms in (
      hold_both (are_among ns ms) (are_among ms ns)
          (among_from ns ms (λ x i. among_at ks ms g.1 x (among_at ns ks f.0 x i)))
          (among_from ms ns (λ x i. among_at ks ns f.1 x (among_at ms ks g.0 x i))),
      hold_both (are_among both ks) (are_among ks both)
          (among_from both ks (λ x i. ⊎_elim (among_at ns ks f.0 x) (among_at ms ks g.0 x) (both_in ns ms x i)))
          (among_from ks both (λ x i. both_left ns ms (union_parts ns v).0 (union_parts ms w).0 x (among_at ks ns f.1 x i))),
    )

unions_least : (m : Mode) (ns ms ks : List Name) → is_union ns ≡ true → is_union ms ≡ true → is_union_below m ns ks ≡ true → is_union_below m ms ks ≡ true → Joined m (entity_types ns) (entity_types ms) (entity_types ks)
unions_least m ns ms ks v w h k =
    let f = union_joined m ns ms ks v w h k in
    (entity_types (names_of_both ns ms), given (is_permissive m || (are_among ns ms && are_among ms ns)) (entity_types (names_of_both ns ms)) f.0, f.1)

sets_least : (m : Mode) (a b c : Ty) → Joined m a b c → Joined m (set_type a) (set_type b) (set_type c)
sets_least m a b c h = (set_type h.0, ap (option_map set_type) h.1, h.2)

extensions_least : (m : Mode) (x y z : Name) → name_eq x z ≡ true → name_eq y z ≡ true → Joined m (extension_type x) (extension_type y) (extension_type z)
extensions_least m x y z h k =
    (extension_type x, given (name_eq x y) (extension_type x) ((name_eq-Decides x y).1 ((name_eq-Decides x z).0 h ∙ sym ((name_eq-Decides y z).0 k))), h)

-- records
module _ (m : Mode) (as_ bs : Attributes) (parts : (n : Text) (d : Declared) → attribute_named n as_ ≡ Some d → Least m d.type) (v : Formed as_) (w : Formed bs) where
  meet : (n : Text) (e : Declared) → has_no_any_set e.type ≡ true → Found m as_ n e → Found m bs n e → Found m (attributes_join m as_ bs) n e
  meet n e free f g =
      let d = f.0 in
      let c = g.0 in
      let k = parts n d f.1 c.type e.type (formed_at as_ v n d f.1) (formed_at bs w n c g.1) free f.2 g.2 in (
        declares k.0 (d.is_required && c.is_required),
        join_named m as_ bs v n ∙ joins m (attribute_named n as_) (attribute_named n bs) d c k.0 f.1 g.1 k.1 (carries_agree m d.is_required c.is_required e.is_required f.3 g.3),
        k.2,
        carries_and m d.is_required c.is_required e.is_required f.3 g.3,
      )

  have_least : (cs : Attributes) → have_no_any_set cs ≡ true → have_below m as_ cs ≡ true → have_below m bs cs ≡ true → have_below m (attributes_join m as_ bs) cs ≡ true
  have_least no_attributes free h k = refl
  have_least (attribute n t r cs) free h k =
      let s = both_hold (has_no_any_set t) (have_no_any_set cs) free in
      let p = have_parts m as_ n t r cs h in
      let q = have_parts m bs n t r cs k in
      let js = attributes_join m as_ bs in
      let f = meet n (declares t r) s.0 (declared_found m t r (attribute_named n as_) p.0) (declared_found m t r (attribute_named n bs) q.0) in
      hold_both (is_declared_below m (λ a. is_subtype m a t) r (attribute_named n js)) (have_below m js cs)
      (found_declared m t r (attribute_named n js) f.0 f.1 f.2 f.3) (have_least cs s.1 p.1 q.1)

  module _ (cs : Attributes) (free : have_no_any_set cs ≡ true) (h : have_below m as_ cs ≡ true) (k : have_below m bs cs ≡ true) where
    met : (n : Text) (e : Declared) → attribute_named n cs ≡ Some e → (j : Declared) × (attribute_named n (attributes_join m as_ bs) ≡ Some j)
    met n e i =
        let f = meet n e (free_at cs free n e i) (have_at m as_ cs h n e i) (have_at m bs cs k n e i) in
        (f.0, f.1)

    stays_first : are_named as_ cs ≡ true → are_named as_ (attributes_join m as_ bs) ≡ true
    stays_first i = named_from as_ (attributes_join m as_ bs) v (λ n d e. let c = named_at as_ cs i n d e in met n c.0 c.1)

    stays_second : are_named bs cs ≡ true → are_named bs (attributes_join m as_ bs) ≡ true
    stays_second i = named_from bs (attributes_join m as_ bs) w (λ n d e. let c = named_at bs cs i n d e in met n c.0 c.1)

  join_names : (cs : Attributes) → are_named as_ cs ≡ true → are_named (attributes_join m as_ bs) cs ≡ true
  join_names cs i = named_from (attributes_join m as_ bs) cs (attributes_formed m as_ bs v w) (λ n e h.
      let k = joint m (attribute_named n as_) (attribute_named n bs) e (sym (join_named m as_ bs v n) ∙ h) in
      named_at as_ cs i n k.first k.first_is)

  pub all_stay : (cs : Attributes) → have_no_any_set cs ≡ true → have_below m as_ cs ≡ true → have_below m bs cs ≡ true → are_named as_ cs ≡ true → are_named bs cs ≡ true → (all_stayed as_ bs (attributes_join m as_ bs) ≡ true) × (are_named (attributes_join m as_ bs) cs ≡ true)
  all_stay cs free h k i j =
      let js = attributes_join m as_ bs in
      (hold_both (are_named as_ js) (are_named bs js) (stays_first cs free h k i) (stays_second cs free h k j), join_names cs i)

opened_is : (as_ : Attributes) (o : Openness) (bs : Attributes) (p : Openness) (js : Attributes) → o ≡ is_closed → p ≡ is_closed → all_stayed as_ bs js ≡ true → opened as_ o bs p js ≡ is_closed
opened_is as_ o bs p js e f s =
    let start : opened as_ o bs p js ≡ opened as_ is_closed bs is_closed js = λ i. opened as_ (e i) bs (f i) js in
    start ∙ ap openness_of_join s

abbrev Frames : Mode → Attributes → Openness → Attributes → Openness → Attributes → Openness → Attributes → Type 0
Frames m as_ o bs p cs q js = (allowed m as_ o bs p js ≡ true) × (is_frame_below m js (opened as_ o bs p js) cs q ≡ true)

frames_least : (m : Mode) (as_ : Attributes) (o : Openness) (bs : Attributes) (p : Openness) (cs : Attributes) (q : Openness) (js : Attributes) → is_frame_below m as_ o cs q ≡ true → is_frame_below m bs p cs q ≡ true → (are_named as_ cs ≡ true → are_named bs cs ≡ true → (all_stayed as_ bs js ≡ true) × (are_named js cs ≡ true)) → Frames m as_ o bs p cs q js
frames_least permissive as_ o bs p cs is_open js h k stay = (refl, open_frame js (opened as_ o bs p js) cs)
frames_least permissive as_ o bs p cs is_closed js h k stay =
    let f = closed_frame as_ o cs h in
    let g = closed_frame bs p cs k in
    let s = stay f.1 g.1 in
    (refl, from_closed_frame js (opened as_ o bs p js) cs (opened_is as_ o bs p js f.0 g.0 s.0) s.1)
frames_least strict as_ o bs p cs q js h k stay =
    let f = strict_frame as_ o cs q h in
    let g = strict_frame bs p cs q k in
    let s = stay f.1 g.1 in
    let same : agree strict (is_closed_record o) (is_closed_record p) ≡ true = subst (λ x. agree strict (is_closed_record o) (is_closed_record x) ≡ true) (f.0 ∙ sym g.0) (agree_same strict (is_closed_record o)) in
    let a : allowed strict as_ o bs p js ≡ true = hold_both (agree strict (is_closed_record o) (is_closed_record p)) (all_stayed as_ bs js) same s.0 in
    let e = (strict_allowed as_ o bs p js a).0 ∙ f.0 in
    (a, subst (λ x. is_frame_below strict js x cs q ≡ true) (sym e) (from_strict_frame js q cs s.1))

records_least : (m : Mode) (as_ : Attributes) (o : Openness) (bs : Attributes) (p : Openness) (cs : Attributes) (q : Openness) → ((n : Text) (d : Declared) → attribute_named n as_ ≡ Some d → Least m d.type) → Formed as_ → Formed bs → have_no_any_set cs ≡ true → Below m (record_type as_ o) (record_type cs q) → Below m (record_type bs p) (record_type cs q) → Joined m (record_type as_ o) (record_type bs p) (record_type cs q)
records_least m as_ o bs p cs q parts v w free h k =
    let js = attributes_join m as_ bs in
    let f = record_parts m as_ o cs q h in
    let g = record_parts m bs p cs q k in
    let r = opened as_ o bs p js in
    let s = frames_least m as_ o bs p cs q js f.0 g.0 (all_stay m as_ bs parts v w cs free f.1 g.1) in (
      record_type js r,
      given (allowed m as_ o bs p js) (record_type js r) s.0,
      hold_both (is_frame_below m js r cs q) (have_below m js cs) s.1 (have_least m as_ bs parts v w cs free f.1 g.1),
    )

least_step : (m : Mode) (a : Ty) → Parts (Least m) a → Least m a
least_step m never p b c v w free h k = (b, refl, k)
least_step m (bool_type x) p never c v w free h k = (bool_type x, refl, h)
least_step m long_type p never c v w free h k = (long_type, refl, h)
least_step m string_type p never c v w free h k = (string_type, refl, h)
least_step m any_entity p never c v w free h k = (any_entity, refl, h)
least_step m (entity_types ns) p never c v w free h k = (entity_types ns, refl, h)
least_step m any_set p never c v w free h k = (any_set, refl, h)
least_step m (set_type t) p never c v w free h k = (set_type t, refl, h)
least_step m (record_type as_ o) p never c v w free h k = (record_type as_ o, refl, h)
least_step m (extension_type n) p never c v w free h k = (extension_type n, refl, h)
least_step m (bool_type x) p (bool_type y) (bool_type z) v w free h k = (bool_type (bool_join x y), refl, bool_least x y z h k)
least_step m (bool_type x) p b (bool_type z) v w free h k = no_lie k
least_step m long_type p long_type long_type v w free h k = (long_type, refl, refl)
least_step m long_type p b long_type v w free h k = no_lie k
least_step m string_type p string_type string_type v w free h k = (string_type, refl, refl)
least_step m string_type p b string_type v w free h k = no_lie k
least_step m any_entity p any_entity any_entity v w free h k = (any_entity, refl, refl)
least_step m any_entity p (entity_types ms) any_entity v w free h k = (any_entity, given (is_permissive m) any_entity k, refl)
least_step m any_entity p b any_entity v w free h k = no_lie k
least_step m (entity_types ns) p any_entity any_entity v w free h k = (any_entity, given (is_permissive m) any_entity h, refl)
least_step m (entity_types ns) p (entity_types ms) any_entity v w free h k =
    (entity_types (names_of_both ns ms), given (is_permissive m || (are_among ns ms && are_among ms ns)) (entity_types (names_of_both ns ms)) (hold_left (is_permissive m) (are_among ns ms && are_among ms ns) h), h)
least_step m (entity_types ns) p b any_entity v w free h k = no_lie k
least_step m (entity_types ns) p (entity_types ms) (entity_types ks) v w free h k = unions_least m ns ms ks v w h k
least_step m (entity_types ns) p b (entity_types ks) v w free h k = no_lie k
least_step m a p b any_set v w free h k = no_lie free
least_step m (set_type a) p (set_type b) (set_type c) v w free h k = sets_least m a b c (p b c v w free h k)
least_step m (set_type a) p b (set_type c) v w free h k = no_lie k
least_step m (record_type as_ o) parts (record_type bs p) (record_type cs q) v w free h k = records_least m as_ o bs p cs q parts v w free h k
least_step m (record_type as_ o) parts b (record_type cs q) v w free h k = no_lie k
least_step m (extension_type x) p (extension_type y) (extension_type z) v w free h k = extensions_least m x y z h k
least_step m (extension_type x) p b (extension_type z) v w free h k = no_lie k
least_step m a p b c v w free h k = no_lie h

pub join_least : (m : Mode) (a b c : Ty) → is_well_formed_type a ≡ true → is_well_formed_type b ≡ true → has_no_any_set c ≡ true → Below m a c → Below m b c → Joined m a b c
join_least m = each_type (Least m) (least_step m)

pub least_bound : (m : Mode) (a b j c : Ty) → is_well_formed_type a ≡ true → is_well_formed_type b ≡ true → join m a b ≡ Some j → has_no_any_set c ≡ true → Below m a c → Below m b c → Below m j c
least_bound m a b j c v w e free h k = let f = join_least m a b c v w free h k in subst (λ x. Below m x c) (inside (sym f.1 ∙ e)) f.2

pub join_exists : (m : Mode) (a b c : Ty) → is_well_formed_type a ≡ true → is_well_formed_type b ≡ true → has_no_any_set c ≡ true → Below m a c → Below m b c → is_some (join m a b) ≡ true
join_exists m a b c v w free h k = let f = join_least m a b c v w free h k in some_is (join m a b) f.0 f.1
