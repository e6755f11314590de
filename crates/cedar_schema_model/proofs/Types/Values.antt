-- Values of a type.
use Rattle.std.proofs.Common.{◌≡◌, ◌↔◌, Bool, true, false, not, ◌||◌, Option, Some, None, is_some, refl, sym, ap, ◌∙◌, subst, true≢false, Decides, inl, inr, ⊎_elim}
use Rattle.std.proofs.lemmas.Bool.Decides.{Decides-and}
use Rattle.cedar_expr_model.specs.Name.{Text, name_eq}
use Rattle.cedar_expr_model.specs.Value.{Literal, truth, long, text, entity, V, prim, set_of, record_of, extension, Vs, no_values, value, Fields, no_fields, field, field_of}
use Rattle.cedar_expr_model.specs.SamenessLaws.{Among}
use Rattle.cedar_expr_model.proofs.Equality.{name_eq-Decides}
use Rattle.cedar_expr_model.proofs.Lists.{found-Decides, any_has}
use Rattle.std.specs.List.{list_any}
use Rattle.cedar_schema_model.specs.Types.{BoolType, any_bool, only_true, only_false, Openness, is_open, is_closed, Ty, never, bool_type, long_type, string_type, any_entity, entity_types, any_set, set_type, record_type, extension_type, Attributes, no_attributes, attribute, Declared, attribute_named, Mode, strict, permissive}
use Rattle.cedar_schema_model.specs.Subtype.{carries, is_bool_below, is_frame_below, have_below}
use Rattle.cedar_schema_model.specs.OfLaws.Formed.{Below}
use Rattle.cedar_schema_model.specs.HasType.{is_of_bool, LiteralHasType, FieldFits, HasRequired, HasType, HaveType, FieldsFit, literal_has_type, field_fits, has_required, has_type, have_type, fields_fit}
use Rattle.cedar_schema_model.specs.Join.{are_disjoint}
use Rattle.cedar_schema_model.proofs.Types.Lookups.{no_lie, no_none, inside, named_cases}
use Rattle.cedar_schema_model.proofs.Types.Names.{among_at, listed}
use Rattle.cedar_schema_model.proofs.Types.Subtypes.{record_parts, have_parts, have_at, declared_found, closed_frame, named_at, below_weaker}

-- the test decides
literal_decided : (p : Literal) (t : Ty) → Decides (literal_has_type p t) (LiteralHasType p t)
literal_decided (truth b) (bool_type c) = (λ h. h, λ h. h)
literal_decided (long n) long_type = (λ h. tt, λ h. refl)
literal_decided (text s) string_type = (λ h. tt, λ h. refl)
literal_decided (entity u) any_entity = (λ h. tt, λ h. refl)
literal_decided (entity u) (entity_types ns) = found-Decides name_eq name_eq-Decides u.kind ns
literal_decided p t = (λ h. no_lie h, λ h. absurd h)

field_decided : (o : Openness) (Has : Ty → Type 0) (has : Ty → Bool) (each : (t : Ty) → Decides (has t) (Has t)) (x : Option Declared) → Decides (field_fits o has x) (FieldFits o Has x)
field_decided is_open Has has each None = (λ h. tt, λ h. refl)
field_decided is_closed Has has each None = (λ h. no_lie h, λ h. absurd h)
field_decided o Has has each (Some d) = each d.type

asked : (r x : Bool) → Decides (not r || x) (r ≡ true → x ≡ true)
asked true x = (λ h e. h, λ h. h refl)
asked false x = (λ h e. no_lie e, λ h. refl)

required_decided : (as_ : Attributes) (fs : Fields) → Decides (has_required as_ fs) (HasRequired as_ fs)
required_decided no_attributes fs = (λ h. tt, λ h. refl)
required_decided (attribute n t r as_) fs = Decides-and (not r || is_some (field_of n fs)) (has_required as_ fs) (asked r (is_some (field_of n fs))) (required_decided as_ fs)

mutual
  pub value_decided : (v : V) (t : Ty) → Decides (has_type v t) (HasType v t)
  value_decided (prim p) t = literal_decided p t
  value_decided (set_of vs) any_set = (λ h. tt, λ h. refl)
  value_decided (set_of vs) (set_type t) = values_decided vs t
  value_decided (record_of fs) (record_type as_ o) = Decides-and (has_required as_ fs) (fields_fit as_ o fs) (required_decided as_ fs) (fields_decided as_ o fs)
  value_decided (extension n k) (extension_type m) = name_eq-Decides n m
  value_decided v t = (λ h. no_lie h, λ h. absurd h)

  values_decided : (vs : Vs) (t : Ty) → Decides (have_type vs t) (HaveType vs t)
  values_decided no_values t = (λ h. tt, λ h. refl)
  values_decided (value v vs) t = Decides-and (has_type v t) (have_type vs t) (value_decided v t) (values_decided vs t)

  fields_decided : (as_ : Attributes) (o : Openness) (fs : Fields) → Decides (fields_fit as_ o fs) (FieldsFit as_ o fs)
  fields_decided as_ o no_fields = (λ h. tt, λ h. refl)
  fields_decided as_ o (field n v fs) =
      Decides-and (field_fits o (has_type v) (attribute_named n as_)) (fields_fit as_ o fs)
      (field_decided o (HasType v) (has_type v) (value_decided v) (attribute_named n as_))
      (fields_decided as_ o fs)

-- each member of a set
each_of : (vs : Vs) (t : Ty) → HaveType vs t → (v : V) → Among v vs → HasType v t
each_of no_values t h v k = absurd k
each_of (value w ws) t h v k = ⊎_elim (λ e. subst (λ x. HasType x t) (sym e) h.0) (each_of ws t h.1 v) k

of_each : (vs : Vs) (t : Ty) → ((v : V) → Among v vs → HasType v t) → HaveType vs t
of_each no_values t h = tt
of_each (value w ws) t h = (h w (inl refl), of_each ws t (λ v k. h v (inr k)))

pub sets_by_members : (t : Ty) (vs : Vs) → HasType (set_of vs) (set_type t) ↔ ((v : V) → Among v vs → HasType v t)
sets_by_members t vs = (each_of vs t, of_each vs t)

-- values of a type are values of a greater one
bool_kept : (x y : BoolType) (b : Bool) → is_bool_below x y ≡ true → is_of_bool x b ≡ true → is_of_bool y b ≡ true
bool_kept x any_bool b h k = refl
bool_kept only_true only_true b h k = k
bool_kept only_false only_false b h k = k
bool_kept x y b h k = no_lie h

literal_kept : (p : Literal) (a b : Ty) → Below permissive a b → LiteralHasType p a → LiteralHasType p b
literal_kept (truth c) (bool_type x) (bool_type y) h k = bool_kept x y c h k
literal_kept (long n) long_type long_type h k = tt
literal_kept (text s) string_type string_type h k = tt
literal_kept (entity u) any_entity any_entity h k = tt
literal_kept (entity u) (entity_types ns) any_entity h k = tt
literal_kept (entity u) (entity_types ns) (entity_types ms) h k = among_at ns ms h u.kind k
literal_kept (truth c) (bool_type x) b h k = no_lie h
literal_kept (long n) long_type b h k = no_lie h
literal_kept (text s) string_type b h k = no_lie h
literal_kept (entity u) any_entity b h k = no_lie h
literal_kept (entity u) (entity_types ns) b h k = no_lie h
literal_kept p a b h k = absurd k

pub required_at : (as_ : Attributes) (fs : Fields) → HasRequired as_ fs → (n : Text) (d : Declared) → attribute_named n as_ ≡ Some d → d.is_required ≡ true → is_some (field_of n fs) ≡ true
required_at no_attributes fs h n d e r = no_none e
required_at (attribute b t q as_) fs h n d e r =
    named_cases n b t q as_ d e
    (λ x y. subst (λ z. is_some (field_of z fs) ≡ true) (sym x) (h.0 (ap (λ (z : Declared). z.is_required) y ∙ r)))
    (λ x y. required_at as_ fs h.1 n d y r)

carried : (x y : Bool) → carries permissive x y ≡ true → y ≡ true → x ≡ true
carried true y h e = refl
carried false true h e = h
carried false false h e = e

required_kept : (bs as_ : Attributes) (fs : Fields) → have_below permissive as_ bs ≡ true → HasRequired as_ fs → HasRequired bs fs
required_kept no_attributes as_ fs h k = tt
required_kept (attribute n t r bs) as_ fs h k =
    let p = have_parts permissive as_ n t r bs h in
    let f = declared_found permissive t r (attribute_named n as_) p.0 in
    (λ e. required_at as_ fs k n f.0 f.1 (carried f.0.is_required r f.3 e), required_kept bs as_ fs p.1 k)

-- what a field must be under the one type and under the other
abbrev Passes : (Ty → Type 0) → Option Declared → Option Declared → Type 0
Passes Has x y = (e : Declared) → y ≡ Some e → (d : Declared) × (x ≡ Some d) × (Has d.type → Has e.type)

abbrev Closes : Openness → Openness → Option Declared → Option Declared → Type 0
Closes o p x y = p ≡ is_closed → (o ≡ is_closed) × ((d : Declared) → x ≡ Some d → (e : Declared) × (y ≡ Some e))

pub field_some : (Has : Ty → Type 0) (o : Openness) (x : Option Declared) (d : Declared) → x ≡ Some d → FieldFits o Has x → Has d.type
field_some Has o None d e h = no_none e
field_some Has o (Some c) d e h = subst (λ (z : Declared). Has z.type) (inside e) h

field_none : (Has : Ty → Type 0) (o : Openness) (x : Option Declared) → o ≡ is_closed → ((d : Declared) → x ≡ Some d → ⊥) → FieldFits o Has x → ⊥
field_none Has o (Some d) e n h = n d refl
field_none Has is_closed None e n h = h
field_none Has is_open None e n h = subst (λ z. FieldFits z Has None) e h

field_kept : (Has : Ty → Type 0) (o p : Openness) (x y : Option Declared) → Passes Has x y → Closes o p x y → FieldFits o Has x → FieldFits p Has y
field_kept Has o p x (Some e) s c h = let f = s e refl in f.2 (field_some Has o x f.0 f.1 h)
field_kept Has o is_open x None s c h = tt
field_kept Has o is_closed x None s c h = let f = c refl in field_none Has o x f.0 (λ d e. no_none (f.1 d e).1) h

closes : (as_ : Attributes) (o : Openness) (bs : Attributes) (p : Openness) → is_frame_below permissive as_ o bs p ≡ true → (n : Text) → Closes o p (attribute_named n as_) (attribute_named n bs)
closes as_ o bs p h n e =
    let f = closed_frame as_ o bs (subst (λ x. is_frame_below permissive as_ o bs x ≡ true) e h) in
    (f.0, named_at as_ bs f.1 n)

mutual
  pub value_kept : (v : V) (a b : Ty) → Below permissive a b → HasType v a → HasType v b
  value_kept (prim p) a b h k = literal_kept p a b h k
  value_kept (set_of vs) any_set any_set h k = tt
  value_kept (set_of vs) (set_type a) any_set h k = tt
  value_kept (set_of vs) (set_type a) (set_type b) h k = values_kept vs a b h k
  value_kept (record_of fs) (record_type as_ o) (record_type bs p) h k =
      let f = record_parts permissive as_ o bs p h in
      (required_kept bs as_ fs f.1 k.0, fields_kept fs as_ o bs p f.0 f.1 k.1)
  value_kept (extension n x) (extension_type l) (extension_type m) h k = k ∙ (name_eq-Decides l m).0 h
  value_kept (set_of vs) any_set b h k = no_lie h
  value_kept (set_of vs) (set_type a) b h k = no_lie h
  value_kept (record_of fs) (record_type as_ o) b h k = no_lie h
  value_kept (extension n x) (extension_type l) b h k = no_lie h
  value_kept v a b h k = absurd k

  values_kept : (vs : Vs) (a b : Ty) → Below permissive a b → HaveType vs a → HaveType vs b
  values_kept no_values a b h k = tt
  values_kept (value v vs) a b h k = (value_kept v a b h k.0, values_kept vs a b h k.1)

  fields_kept : (fs : Fields) (as_ : Attributes) (o : Openness) (bs : Attributes) (p : Openness) → is_frame_below permissive as_ o bs p ≡ true → have_below permissive as_ bs ≡ true → FieldsFit as_ o fs → FieldsFit bs p fs
  fields_kept no_fields as_ o bs p f h k = tt
  fields_kept (field n v fs) as_ o bs p f h k = (
    field_kept (HasType v) o p (attribute_named n as_) (attribute_named n bs)
        (λ e q. let g = have_at permissive as_ bs h n e q in (g.0, g.1, value_kept v g.0.type e.type g.2))
        (closes as_ o bs p f n) k.0,
    fields_kept fs as_ o bs p f h k.1,
  )

weaker : (m : Mode) (a b : Ty) → Below m a b → Below permissive a b
weaker permissive a b h = h
weaker strict a b h = below_weaker b a h

pub supertypes_keep : (m : Mode) (a b : Ty) (v : V) → Below m a b → HasType v a → HasType v b
supertypes_keep m a b v h = value_kept v a b (weaker m a b h)

pub never_empty : (v : V) → HasType v never → ⊥
never_empty (prim (truth b)) h = h
never_empty (prim (long n)) h = h
never_empty (prim (text s)) h = h
never_empty (prim (entity u)) h = h
never_empty (set_of vs) h = h
never_empty (record_of fs) h = h
never_empty (extension n k) h = h

pub disjoint_apart : (a b : Ty) (v : V) → are_disjoint a b ≡ true → HasType v a → HasType v b → ⊥
disjoint_apart (entity_types ns) (entity_types ms) (prim (entity u)) h x y =
    let f = any_has (λ n. list_any (name_eq n) ms) ns u.kind x (listed u.kind ms y) in
    true≢false (sym h ∙ ap not f)
disjoint_apart (entity_types ns) (entity_types ms) v h x y = absurd x
disjoint_apart a b v h x y = no_lie h
