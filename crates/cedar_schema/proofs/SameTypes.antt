-- A test of equality of the model's types.
use Rattle.std.proofs.Common.{◌≡◌, ◌&&◌, Bool, true, false, List, refl, sym, ap, ◌∙◌}
use Rattle.std.specs.Bool.{Decides, beq}
use Rattle.std.specs.Cmp.{booleans_Decides}
use Rattle.std.specs.Cmp.Lexicographic.{pointwise, pointwise_decides}
use Rattle.std.specs.Str.{bytes_eq}
use Rattle.std.proofs.lemmas.Slice.Eq.{bytes_eq-Decides}
use Rattle.cedar_expr_model.specs.Name.{Name, name_eq}
use Rattle.cedar_expr_model.proofs.Equality.{name_eq-Decides}
use Rattle.cedar_schema_model.specs.Types.{BoolType, any_bool, only_true, only_false, Openness, is_open, is_closed, Ty, never, long_type, string_type, any_entity, any_set, bool_type, entity_types, set_type, record_type, extension_type, Attributes, no_attributes, attribute}

abbrev pub same_bool : BoolType → BoolType → Bool
same_bool any_bool any_bool = true
same_bool only_true only_true = true
same_bool only_false only_false = true
same_bool b c = false

abbrev pub same_openness : Openness → Openness → Bool
same_openness is_open is_open = true
same_openness is_closed is_closed = true
same_openness o p = false

abbrev mutual
  pub same_type : Ty → Ty → Bool
  same_type never never = true
  same_type long_type long_type = true
  same_type string_type string_type = true
  same_type any_entity any_entity = true
  same_type any_set any_set = true
  same_type (bool_type b) (bool_type c) = same_bool b c
  same_type (entity_types ms) (entity_types ns) = pointwise name_eq ms ns
  same_type (set_type t) (set_type u) = same_type t u
  same_type (record_type as_ o) (record_type bs p) = same_attributes as_ bs && same_openness o p
  same_type (extension_type m) (extension_type n) = name_eq m n
  same_type t u = false

  pub same_attributes : Attributes → Attributes → Bool
  same_attributes no_attributes no_attributes = true
  same_attributes (attribute a t r as_) (attribute b u q bs) = (bytes_eq a b && (same_type t u && beq r q)) && same_attributes as_ bs
  same_attributes as_ bs = false

-- what holds of both holds of each
first_holds : (a b : Bool) → (a && b) ≡ true → a ≡ true
first_holds true b h = refl
first_holds false b h = h

second_holds : (a b : Bool) → (a && b) ≡ true → b ≡ true
second_holds true b h = h
second_holds false b h = absurd (cc)

both_hold : (a b : Bool) → a ≡ true → b ≡ true → (a && b) ≡ true
both_hold a b e f = ap (λ c. c && b) e ∙ f

pub names_decide : (ms ns : List Name) → Decides (pointwise name_eq ms ns) (ms ≡ ns)
names_decide ms ns = pointwise_decides name_eq-Decides ms ns

-- types of which it holds are one
bools_exact : (b c : BoolType) → same_bool b c ≡ true → b ≡ c
bools_exact any_bool any_bool h = refl
bools_exact only_true only_true h = refl
bools_exact only_false only_false h = refl
bools_exact b c h = absurd (cc)

opennesses_exact : (o p : Openness) → same_openness o p ≡ true → o ≡ p
opennesses_exact is_open is_open h = refl
opennesses_exact is_closed is_closed h = refl
opennesses_exact o p h = absurd (cc)

mutual
  types_exact : (t u : Ty) → same_type t u ≡ true → t ≡ u
  types_exact never never h = refl
  types_exact long_type long_type h = refl
  types_exact string_type string_type h = refl
  types_exact any_entity any_entity h = refl
  types_exact any_set any_set h = refl
  types_exact (bool_type b) (bool_type c) h = ap bool_type (bools_exact b c h)
  types_exact (entity_types ms) (entity_types ns) h = ap entity_types ((names_decide ms ns).0 h)
  types_exact (set_type t) (set_type u) h = ap set_type (types_exact t u h)
  types_exact (record_type as_ o) (record_type bs p) h =
      let e = attributes_exact as_ bs (first_holds _ (same_openness o p) h) in
      let f = opennesses_exact o p (second_holds (same_attributes as_ bs) _ h) in
      λ i. record_type (e i) (f i)
  types_exact (extension_type m) (extension_type n) h = ap extension_type ((name_eq-Decides m n).0 h)
  types_exact t u h = absurd (cc)

  attributes_exact : (as_ bs : Attributes) → same_attributes as_ bs ≡ true → as_ ≡ bs
  attributes_exact no_attributes no_attributes h = refl
  attributes_exact no_attributes (attribute b u q bs) h = absurd (cc)
  attributes_exact (attribute a t r as_) no_attributes h = absurd (cc)
  attributes_exact (attribute a t r as_) (attribute b u q bs) h =
      let one = first_holds (bytes_eq a b && (same_type t u && beq r q)) (same_attributes as_ bs) h in
      let what = second_holds (bytes_eq a b) (same_type t u && beq r q) one in
      let d = (bytes_eq-Decides a b).0 (first_holds _ (same_type t u && beq r q) one) in
      let e = types_exact t u (first_holds _ (beq r q) what) in
      let f = (booleans_Decides r q).0 (second_holds (same_type t u) _ what) in
      let g = attributes_exact as_ bs (second_holds (bytes_eq a b && (same_type t u && beq r q)) _ h) in
      λ i. attribute (d i) (e i) (f i) (g i)

-- it holds of a type and itself
bools_same : (b : BoolType) → same_bool b b ≡ true
bools_same any_bool = refl
bools_same only_true = refl
bools_same only_false = refl

opennesses_same : (o : Openness) → same_openness o o ≡ true
opennesses_same is_open = refl
opennesses_same is_closed = refl

mutual
  types_same : (t : Ty) → same_type t t ≡ true
  types_same never = refl
  types_same long_type = refl
  types_same string_type = refl
  types_same any_entity = refl
  types_same any_set = refl
  types_same (bool_type b) = bools_same b
  types_same (entity_types ns) = (names_decide ns ns).1 refl
  types_same (set_type t) = types_same t
  types_same (record_type as_ o) = both_hold _ _ (attributes_same as_) (opennesses_same o)
  types_same (extension_type n) = (name_eq-Decides n n).1 refl

  attributes_same : (as_ : Attributes) → same_attributes as_ as_ ≡ true
  attributes_same no_attributes = refl
  attributes_same (attribute a t r as_) =
      both_hold _ _ (both_hold _ _ ((bytes_eq-Decides a a).1 refl) (both_hold _ _ (types_same t) ((booleans_Decides r r).1 refl))) (attributes_same as_)

-- the test decides equality
pub same_type-Decides : (t u : Ty) → Decides (same_type t u) (t ≡ u)
same_type-Decides t u = (types_exact t u, λ e. ap (same_type t) (sym e) ∙ types_same t)

-- so do those of what stands in a type
pub same_bool-Decides : (b c : BoolType) → Decides (same_bool b c) (b ≡ c)
same_bool-Decides b c = (bools_exact b c, λ e. ap (same_bool b) (sym e) ∙ bools_same b)

pub same_openness-Decides : (o p : Openness) → Decides (same_openness o p) (o ≡ p)
same_openness-Decides o p = (opennesses_exact o p, λ e. ap (same_openness o) (sym e) ∙ opennesses_same o)

pub same_attributes-Decides : (as_ bs : Attributes) → Decides (same_attributes as_ bs) (as_ ≡ bs)
same_attributes-Decides as_ bs = (attributes_exact as_ bs, λ e. ap (same_attributes as_) (sym e) ∙ attributes_same as_)
