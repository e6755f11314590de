-- Values that types have, one for each type whose parts have values.
use Rattle.std.proofs.Common.{◌≡◌, List, [], ◌∷◌, Bool, true, false, cond, ◌&&◌, Option, Some, None, is_some, refl, sym, ap, ◌∙◌, subst, pos}
use Rattle.std.specs.Str.{bytes_eq}
use Rattle.std.proofs.lemmas.Slice.Eq.{bytes_eq-Decides}
use Rattle.cedar_expr_model.specs.Name.{Text, Name}
use Rattle.cedar_expr_model.specs.Value.{truth, long, text, entity, V, prim, set_of, record_of, extension, no_values, Fields, no_fields, field, field_of}
use Rattle.cedar_expr_model.specs.Canonical.{is_before, is_canonical, have_canonical}
use Rattle.cedar_expr_model.proofs.Lists.{both_hold, hold_both, contains_head}
use Rattle.cedar_schema_model.specs.Types.{BoolType, any_bool, only_true, only_false, Openness, Ty, never, bool_type, long_type, string_type, any_entity, entity_types, any_set, set_type, record_type, extension_type, Attributes, no_attributes, attribute, Declared, attribute_named}
use Rattle.cedar_schema_model.specs.OfLaws.Formed.{is_well_formed_type, is_before_attributes}
use Rattle.cedar_schema_model.specs.TypeLaws.{is_filled, are_filled}
use Rattle.cedar_schema_model.specs.HasType.{FieldFits, HasRequired, HasType, FieldsFit}
use Rattle.cedar_schema_model.proofs.Types.Lookups.{no_lie, no_none, inside, test_cases, declares, same_text, named_here, named_first, named_later, named_cases, still_named, Formed, formed_parts, formed_at, each_type, Parts}

-- an entity of the type
abbrev pub entity_of : Name → V
entity_of n = prim (entity (record { kind = n; id = [] }))

abbrev pub plain : Text → Name
plain t = record { path = []; base = t }

abbrev sample_bool : BoolType → Bool
sample_bool any_bool = true
sample_bool only_true = true
sample_bool only_false = false

abbrev sample_member : List Name → V
sample_member [] = entity_of (plain [])
sample_member (n ∷ ns) = entity_of n

abbrev mutual
  pub sample : Ty → V
  sample never = entity_of (plain [])
  sample (bool_type b) = prim (truth (sample_bool b))
  sample long_type = prim (long (pos 0))
  sample string_type = prim (text [])
  sample any_entity = entity_of (plain [])
  sample (entity_types ns) = sample_member ns
  sample any_set = set_of no_values
  sample (set_type t) = set_of no_values
  sample (record_type as_ o) = record_of (sample_fields as_)
  sample (extension_type n) = extension n []

  sample_fields : Attributes → Fields
  sample_fields no_attributes = no_fields
  sample_fields (attribute b t r as_) = field b (sample t) (sample_fields as_)

-- the fields with some changed, before others
abbrev pub built : (Text → V → V) → Attributes → Fields → Fields
built f no_attributes fs = fs
built f (attribute b t r as_) fs = field b (f b (sample t)) (built f as_ fs)

abbrev pub same_value : Text → V → V
same_value b v = v

abbrev pub with_value : Text → V → Text → V → V
with_value n w b v = cond (bytes_eq n b) w v

pub built_same : (as_ : Attributes) → built same_value as_ no_fields ≡ sample_fields as_
built_same no_attributes = refl
built_same (attribute b t r as_) = ap (field b (sample t)) (built_same as_)

field_later : (n b : Text) (v : V) (fs : Fields) → bytes_eq n b ≡ false → field_of n (field b v fs) ≡ field_of n fs
field_later n b v fs e = ap (λ x. cond x (Some v) (field_of n fs)) e

pub field_first : (b : Text) (v : V) (fs : Fields) → field_of b (field b v fs) ≡ Some v
field_first b v fs = ap (λ x. cond x (Some v) (field_of b fs)) (same_text b)

pub built_field : (f : Text → V → V) (as_ : Attributes) (fs : Fields) (n : Text) (d : Declared) → attribute_named n as_ ≡ Some d → field_of n (built f as_ fs) ≡ Some (f n (sample d.type))
built_field f no_attributes fs n d h = no_none h
built_field f (attribute b t r as_) fs n d h =
    let rest = built f as_ fs in
    test_cases (bytes_eq n b)
    (λ e. let q = (bytes_eq-Decides n b).0 e in
    let k : declares t r ≡ d = inside (sym (named_here n b t r as_ e) ∙ h) in
    subst (λ x. field_of x (field b (f b (sample t)) rest) ≡ Some (f x (sample d.type))) (sym q)
    (field_first b (f b (sample t)) rest ∙ ap (λ (x : Declared). Some (f b (sample x.type))) k))
    (λ e. field_later n b (f b (sample t)) rest e ∙ built_field f as_ fs n d (sym (named_later n b t r as_ e) ∙ h))

pub built_other : (f : Text → V → V) (as_ : Attributes) (fs : Fields) (n : Text) → attribute_named n as_ ≡ None → field_of n (built f as_ fs) ≡ field_of n fs
built_other f no_attributes fs n h = refl
built_other f (attribute b t r as_) fs n h =
    test_cases (bytes_eq n b)
    (λ e. no_none (sym h ∙ named_here n b t r as_ e))
    (λ e. field_later n b (f b (sample t)) (built f as_ fs) e ∙ built_other f as_ fs n (sym (named_later n b t r as_ e) ∙ h))

-- what is built is of the type
required_built : (f : Text → V → V) (cs as_ : Attributes) (fs : Fields) → ((n : Text) (d : Declared) → attribute_named n cs ≡ Some d → attribute_named n as_ ≡ Some d) → Formed cs → HasRequired cs (built f as_ fs)
required_built f no_attributes as_ fs h w = tt
required_built f (attribute b t r cs) as_ fs h w = (
  λ e. ap is_some (built_field f as_ fs b (declares t r) (h b (declares t r) (named_first b t r cs))),
  required_built f cs as_ fs (λ n d k. h n d (still_named n b t r cs d w k)) (formed_parts b t r cs w).2,
)

fits_as : (o : Openness) (v : V) (x : Option Declared) (d : Declared) → x ≡ Some d → HasType v d.type → FieldFits o (HasType v) x
fits_as o v x d e h = subst (FieldFits o (HasType v)) (sym e) h

fields_built : (f : Text → V → V) (o : Openness) (as_ cs : Attributes) (fs : Fields) → ((n : Text) (d : Declared) → attribute_named n cs ≡ Some d → (attribute_named n as_ ≡ Some d) × HasType (f n (sample d.type)) d.type) → Formed cs → FieldsFit as_ o fs → FieldsFit as_ o (built f cs fs)
fields_built f o as_ no_attributes fs h w k = k
fields_built f o as_ (attribute b t r cs) fs h w k =
    let first = h b (declares t r) (named_first b t r cs) in (
      fits_as o (f b (sample t)) (attribute_named b as_) (declares t r) first.0 first.1,
      fields_built f o as_ cs fs (λ n d e. h n d (still_named n b t r cs d w e)) (formed_parts b t r cs w).2 k,
    )

pub built_has : (f : Text → V → V) (o : Openness) (as_ : Attributes) (fs : Fields) → ((n : Text) (d : Declared) → attribute_named n as_ ≡ Some d → HasType (f n (sample d.type)) d.type) → Formed as_ → FieldsFit as_ o fs → HasType (record_of (built f as_ fs)) (record_type as_ o)
built_has f o as_ fs h w k = (required_built f as_ as_ fs (λ n d e. e) w, fields_built f o as_ as_ fs (λ n d e. (e, h n d e)) w k)

-- and canonical
before_built : (f : Text → V → V) (x : Text) (as_ : Attributes) (fs : Fields) → is_before_attributes x as_ ≡ true → is_before x fs ≡ true → is_before x (built f as_ fs) ≡ true
before_built f x no_attributes fs h k = k
before_built f x (attribute b t r as_) fs h k = h

pub built_canonical : (f : Text → V → V) (as_ : Attributes) (fs : Fields) → ((n : Text) (d : Declared) → attribute_named n as_ ≡ Some d → (is_canonical (f n (sample d.type)) ≡ true) × (is_before n fs ≡ true)) → Formed as_ → have_canonical fs ≡ true → have_canonical (built f as_ fs) ≡ true
built_canonical f no_attributes fs h w k = k
built_canonical f (attribute b t r as_) fs h w k =
    let p = formed_parts b t r as_ w in
    let first = h b (declares t r) (named_first b t r as_) in
    let rest = built f as_ fs in
    hold_both (is_canonical (f b (sample t))) (is_before b rest && have_canonical rest) first.0
    (hold_both (is_before b rest) (have_canonical rest) (before_built f b as_ fs p.1 first.1)
    (built_canonical f as_ fs (λ n d e. h n d (still_named n b t r as_ d w e)) p.2 k))

-- a type whose parts have values has the sample
abbrev Sampled : Ty → Type 0
Sampled t = is_well_formed_type t ≡ true → is_filled t ≡ true → HasType (sample t) t × (is_canonical (sample t) ≡ true)

pub filled_parts : (n : Text) (t : Ty) (r : Bool) (as_ : Attributes) → are_filled (attribute n t r as_) ≡ true → (r ≡ true) × (is_filled t ≡ true) × (are_filled as_ ≡ true)
filled_parts n t r as_ h =
    let p = both_hold r (is_filled t && are_filled as_) h in
    let q = both_hold (is_filled t) (are_filled as_) p.1 in
    (p.0, q.0, q.1)

pub filled_at : (as_ : Attributes) → are_filled as_ ≡ true → (n : Text) (d : Declared) → attribute_named n as_ ≡ Some d → (d.is_required ≡ true) × (is_filled d.type ≡ true)
filled_at no_attributes w n d h = no_none h
filled_at (attribute b t r as_) w n d h =
    let p = filled_parts b t r as_ w in
    named_cases n b t r as_ d h
    (λ q e. subst (λ (x : Declared). (x.is_required ≡ true) × (is_filled x.type ≡ true)) e (p.0, p.1))
    (λ q e. filled_at as_ p.2 n d e)

bool_sampled : (b : BoolType) → HasType (prim (truth (sample_bool b))) (bool_type b)
bool_sampled any_bool = refl
bool_sampled only_true = refl
bool_sampled only_false = refl

member_sampled : (ns : List Name) → is_well_formed_type (entity_types ns) ≡ true → HasType (sample_member ns) (entity_types ns) × (is_canonical (sample_member ns) ≡ true)
member_sampled [] w = no_lie w
member_sampled (n ∷ ns) w = (contains_head n ns, refl)

record_sampled : (as_ : Attributes) (o : Openness) → ((n : Text) (d : Declared) → attribute_named n as_ ≡ Some d → Sampled d.type) → Formed as_ → are_filled as_ ≡ true → HasType (record_of (built same_value as_ no_fields)) (record_type as_ o) × (have_canonical (built same_value as_ no_fields) ≡ true)
record_sampled as_ o parts w f = (
  built_has same_value o as_ no_fields (λ n d e. (parts n d e (formed_at as_ w n d e) (filled_at as_ f n d e).1).0) w tt,
  built_canonical same_value as_ no_fields (λ n d e. ((parts n d e (formed_at as_ w n d e) (filled_at as_ f n d e).1).1, refl)) w refl,
)

sampled_step : (t : Ty) → Parts Sampled t → Sampled t
sampled_step never p w f = no_lie f
sampled_step (bool_type b) p w f = (bool_sampled b, refl)
sampled_step long_type p w f = (tt, refl)
sampled_step string_type p w f = (tt, refl)
sampled_step any_entity p w f = (tt, refl)
sampled_step (entity_types ns) p w f = member_sampled ns w
sampled_step any_set p w f = (tt, refl)
sampled_step (set_type t) p w f = (tt, refl)
sampled_step (record_type as_ o) p w f = subst (λ x. HasType (record_of x) (record_type as_ o) × (have_canonical x ≡ true)) (built_same as_) (record_sampled as_ o p w f)
sampled_step (extension_type n) p w f = (refl, refl)

pub sampled : (t : Ty) → Sampled t
sampled = each_type Sampled sampled_step
