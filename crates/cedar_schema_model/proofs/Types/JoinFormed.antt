-- Joins of well-formed types are well-formed, and those of types without `any_set` are without it.
use Rattle.std.proofs.Common.{◌≡◌, List, [], ◌∷◌, true, ◌&&◌, ◌||◌, Option, Some, None, IfSome, option_map, Contains, refl, subst}
use Rattle.std.specs.List.{list_all}
use Rattle.cedar_expr_model.specs.Name.{Text, Name, name_eq, is_well_formed}
use Rattle.cedar_expr_model.proofs.Lists.{both_hold, hold_both, contains_head, contains_none}
use Rattle.cedar_schema_model.specs.Types.{Ty, never, bool_type, long_type, string_type, any_entity, entity_types, any_set, set_type, record_type, extension_type, Attributes, no_attributes, attribute, Declared, attribute_named, Mode}
use Rattle.cedar_schema_model.specs.Subtype.{is_permissive, is_closed_record, are_among}
use Rattle.cedar_schema_model.specs.OfLaws.Formed.{is_union, is_well_formed_type}
use Rattle.cedar_schema_model.specs.TypeLaws.{has_no_any_set, have_no_any_set}
use Rattle.cedar_schema_model.specs.Join.{names_of_both, agree, joined_with, kept_attribute, all_stayed, join, attributes_join}
use Rattle.cedar_schema_model.proofs.Types.Lookups.{no_lie, no_none, named_cases, Formed, formed_parts, formed_at}
use Rattle.cedar_schema_model.proofs.Types.Names.{Named, Rising, union_parts, both_named, both_rising, both_right}
use Rattle.cedar_schema_model.proofs.Types.JoinParts.{if_given, joined_type, joined_formed}
use Rattle.cedar_expr_model.specs.Lists.{rises}
use Rattle.cedar_expr_model.specs.UidOrder.{name_cmp}
use Rattle.cedar_schema_model.proofs.Named.{openness_of_join}

abbrev FormedIf : Option Ty → Type 0
FormedIf o = IfSome o (λ j. is_well_formed_type j ≡ true)

union_made : (ns : List Name) → Named ns → Rising ns → (x : Name) → Contains ns x → is_union ns ≡ true
union_made [] v r x h = absurd (contains_none x h)
union_made (m ∷ ms) v r x h = hold_both (list_all is_well_formed (m ∷ ms)) (rises name_cmp (m ∷ ms)) v r

unions_formed : (ns ms : List Name) → is_union ns ≡ true → is_union ms ≡ true → is_union (names_of_both ns ms) ≡ true
unions_formed ns [] v w = no_lie w
unions_formed ns (m ∷ ms) v w =
    let p = union_parts ns v in
    let q = union_parts (m ∷ ms) w in
    union_made (names_of_both ns (m ∷ ms)) (both_named ns (m ∷ ms) p.0 q.0) (both_rising ns (m ∷ ms) q.1) m (both_right ns (m ∷ ms) m (contains_head m ms))

map_formed : (o : Option Ty) → FormedIf o → FormedIf (option_map set_type o)
map_formed None h = tt
map_formed (Some t) h = h

mutual
  pub join_formed : (m : Mode) (a b : Ty) → is_well_formed_type a ≡ true → is_well_formed_type b ≡ true → FormedIf (join m a b)
  join_formed m never b v w = w
  join_formed m (bool_type x) never v w = refl
  join_formed m long_type never v w = refl
  join_formed m string_type never v w = refl
  join_formed m any_entity never v w = refl
  join_formed m (entity_types ns) never v w = v
  join_formed m any_set never v w = refl
  join_formed m (set_type t) never v w = v
  join_formed m (record_type as_ o) never v w = v
  join_formed m (extension_type n) never v w = refl
  join_formed m (bool_type x) (bool_type y) v w = refl
  join_formed m long_type long_type v w = refl
  join_formed m string_type string_type v w = refl
  join_formed m any_entity any_entity v w = refl
  join_formed m any_entity (entity_types ms) v w = if_given (λ j. is_well_formed_type j ≡ true) (is_permissive m) any_entity (λ e. refl)
  join_formed m (entity_types ns) any_entity v w = if_given (λ j. is_well_formed_type j ≡ true) (is_permissive m) any_entity (λ e. refl)
  join_formed m (entity_types ns) (entity_types ms) v w =
      if_given (λ j. is_well_formed_type j ≡ true) (is_permissive m || (are_among ns ms && are_among ms ns)) (entity_types (names_of_both ns ms)) (λ e. unions_formed ns ms v w)
  join_formed m any_set any_set v w = refl
  join_formed m any_set (set_type b) v w = refl
  join_formed m (set_type a) any_set v w = refl
  join_formed m (set_type a) (set_type b) v w = map_formed (join m a b) (join_formed m a b v w)
  join_formed m (record_type as_ o) (record_type bs p) v w =
      let js = attributes_join m as_ bs in
      if_given (λ j. is_well_formed_type j ≡ true)
      (agree m (is_closed_record o) (is_closed_record p) && (is_permissive m || all_stayed as_ bs js))
      (record_type js (openness_of_join (is_closed_record o && (is_closed_record p && all_stayed as_ bs js))))
      (λ e. attributes_formed m as_ bs v w)
  join_formed m (extension_type k) (extension_type n) v w = if_given (λ j. is_well_formed_type j ≡ true) (name_eq k n) (extension_type k) (λ e. refl)
  join_formed m a b v w = tt

  pub attributes_formed : (m : Mode) (as_ bs : Attributes) → Formed as_ → Formed bs → Formed (attributes_join m as_ bs)
  attributes_formed m no_attributes bs v w = refl
  attributes_formed m (attribute b t r as_) bs v w =
      joined_formed m b t r as_ bs v
      (λ d e. join_formed m t d.type (formed_parts b t r as_ v).0 (formed_at bs w b d e))
      (attributes_formed m as_ bs (formed_parts b t r as_ v).2 w)

-- without `any_set`
abbrev FreeIf : Option Ty → Type 0
FreeIf o = IfSome o (λ j. has_no_any_set j ≡ true)

map_free : (o : Option Ty) → FreeIf o → FreeIf (option_map set_type o)
map_free None h = tt
map_free (Some t) h = h

kept_free : (b : Text) (j : Option Declared) (js : Attributes) → IfSome j (λ d. has_no_any_set d.type ≡ true) → have_no_any_set js ≡ true → have_no_any_set (kept_attribute b j js) ≡ true
kept_free b None js h w = w
kept_free b (Some d) js h w = hold_both (has_no_any_set d.type) (have_no_any_set js) h w

pub free_at : (as_ : Attributes) → have_no_any_set as_ ≡ true → (n : Text) (d : Declared) → attribute_named n as_ ≡ Some d → has_no_any_set d.type ≡ true
free_at no_attributes w n d h = no_none h
free_at (attribute b t r as_) w n d h =
    let p = both_hold (has_no_any_set t) (have_no_any_set as_) w in
    named_cases n b t r as_ d h (λ q e. subst (λ (x : Declared). has_no_any_set x.type ≡ true) e p.0) (λ q e. free_at as_ p.1 n d e)

mutual
  pub join_free : (m : Mode) (a b : Ty) → has_no_any_set a ≡ true → has_no_any_set b ≡ true → FreeIf (join m a b)
  join_free m never b v w = w
  join_free m (bool_type x) never v w = refl
  join_free m long_type never v w = refl
  join_free m string_type never v w = refl
  join_free m any_entity never v w = refl
  join_free m (entity_types ns) never v w = refl
  join_free m (set_type t) never v w = v
  join_free m (record_type as_ o) never v w = v
  join_free m (extension_type n) never v w = refl
  join_free m (bool_type x) (bool_type y) v w = refl
  join_free m long_type long_type v w = refl
  join_free m string_type string_type v w = refl
  join_free m any_entity any_entity v w = refl
  join_free m any_entity (entity_types ms) v w = if_given (λ j. has_no_any_set j ≡ true) (is_permissive m) any_entity (λ e. refl)
  join_free m (entity_types ns) any_entity v w = if_given (λ j. has_no_any_set j ≡ true) (is_permissive m) any_entity (λ e. refl)
  join_free m (entity_types ns) (entity_types ms) v w =
      if_given (λ j. has_no_any_set j ≡ true) (is_permissive m || (are_among ns ms && are_among ms ns)) (entity_types (names_of_both ns ms)) (λ e. refl)
  join_free m any_set b v w = no_lie v
  join_free m (set_type a) any_set v w = no_lie w
  join_free m (set_type a) (set_type b) v w = map_free (join m a b) (join_free m a b v w)
  join_free m (record_type as_ o) (record_type bs p) v w =
      let js = attributes_join m as_ bs in
      if_given (λ j. has_no_any_set j ≡ true)
      (agree m (is_closed_record o) (is_closed_record p) && (is_permissive m || all_stayed as_ bs js))
      (record_type js (openness_of_join (is_closed_record o && (is_closed_record p && all_stayed as_ bs js))))
      (λ e. attributes_free m as_ bs v w)
  join_free m (extension_type k) (extension_type n) v w = if_given (λ j. has_no_any_set j ≡ true) (name_eq k n) (extension_type k) (λ e. refl)
  join_free m a b v w = tt

  attributes_free : (m : Mode) (as_ bs : Attributes) → have_no_any_set as_ ≡ true → have_no_any_set bs ≡ true → have_no_any_set (attributes_join m as_ bs) ≡ true
  attributes_free m no_attributes bs v w = refl
  attributes_free m (attribute b t r as_) bs v w =
      let p = both_hold (has_no_any_set t) (have_no_any_set as_) v in
      kept_free b (joined_with m r (join m t) (attribute_named b bs)) (attributes_join m as_ bs)
      (joined_type (λ j. has_no_any_set j ≡ true) m r (join m t) (attribute_named b bs) (λ d e. join_free m t d.type p.0 (free_at bs w b d e)))
      (attributes_free m as_ bs p.1 w)
