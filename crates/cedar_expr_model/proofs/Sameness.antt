-- On canonical values equality as of sets and maps is equality.
use Rattle.std.proofs.Common.{◌≡◌, Bool, true, false, ◌&&◌, Some, cond, refl, sym, ap, ◌∙◌, subst, ◌⊎◌, inl, inr, ⊎_elim, bytes_eq}
use Rattle.std.specs.Prelude.{◌↔◌}
use Rattle.std.proofs.lemmas.Slice.Eq.{bytes_eq-Decides}
use Rattle.std.proofs.lemmas.Cmp.{tied_itself}
use Rattle.std.specs.declared.cmp.Ordering.TheVariants.{Less}
use Rattle.cedar_expr_model.specs.Name.{Text}
use Rattle.cedar_expr_model.specs.Value.{V, prim, set_of, record_of, extension, Vs, no_values, value, Fields, no_fields, field, field_of}
use Rattle.cedar_expr_model.specs.Order.{text_cmp}
use Rattle.cedar_expr_model.specs.Canonical.{is_before, are_rising, is_canonical, are_canonical, have_canonical}
use Rattle.cedar_expr_model.specs.SamenessLaws.{Among, FieldAmong, Same, HasSame, EachAmong, HasSameField, EachFieldAmong}
use Rattle.cedar_expr_model.proofs.Lists.{both_hold}
use Rattle.cedar_expr_model.proofs.Linear.{text_total}
use Rattle.cedar_expr_model.proofs.Rising.{less_is, same_rising}
use Rattle.cedar_expr_model.proofs.Sets.{canonical_member}

-- records
never_before_itself : (a : Text) → text_cmp a a ≡ Less → ⊥
never_before_itself a e = let q = tied_itself text_total a in cc

pub field_parts : (a : Text) (v : V) (fs : Fields) → have_canonical (field a v fs) ≡ true → (is_canonical v ≡ true) × (is_before a fs ≡ true) × (have_canonical fs ≡ true)
field_parts a v fs h =
    let p = both_hold (is_canonical v) (is_before a fs && have_canonical fs) h in
    let q = both_hold (is_before a fs) (have_canonical fs) p.1 in
    (p.0, q.0, q.1)

before_each : (a : Text) (gs : Fields) → is_before a gs ≡ true → have_canonical gs ≡ true → (b : Text) (w : V) → FieldAmong b w gs → text_cmp a b ≡ Less
before_each a no_fields h k b w m = absurd m
before_each a (field c u gs) h k b w (inl e) = ap (text_cmp a) e.0 ∙ less_is (text_cmp a c) h
before_each a (field c u gs) h k b w (inr m) =
    let p = field_parts c u gs k in
    text_total.trans a c b (less_is (text_cmp a c) h) (before_each c gs p.1 p.2 b w m)

pub canonical_field : (fs : Fields) → have_canonical fs ≡ true → (a : Text) (v : V) → FieldAmong a v fs → is_canonical v ≡ true
canonical_field no_fields h a v m = absurd m
canonical_field (field b w fs) h a v (inl e) = ap is_canonical e.1 ∙ (field_parts b w fs h).0
canonical_field (field b w fs) h a v (inr m) = canonical_field fs (field_parts b w fs h).2 a v m

first_is : (a b : Text) (v w : V) (fs gs : Fields) → is_before a fs ≡ true → have_canonical fs ≡ true → is_before b gs ≡ true → have_canonical gs ≡ true → FieldAmong a v (field b w gs) → FieldAmong b w (field a v fs) → (a ≡ b) × (v ≡ w)
first_is a b v w fs gs h i j k (inl e) m = e
first_is a b v w fs gs h i j k (inr l) (inl e) = (sym e.0, sym e.1)
first_is a b v w fs gs h i j k (inr l) (inr m) = absurd (never_before_itself a (text_total.trans a b a (before_each a fs h i b w m) (before_each b gs j k a v l)))

later_field : (a b c : Text) (u w : V) (fs gs : Fields) → a ≡ b → is_before a fs ≡ true → have_canonical fs ≡ true → FieldAmong c u fs → FieldAmong c u (field b w gs) → FieldAmong c u gs
later_field a b c u w fs gs e h i m (inl q) = absurd (never_before_itself a (ap (text_cmp a) (e ∙ sym q.0) ∙ before_each a fs h i c u m))
later_field a b c u w fs gs e h i m (inr k) = k

pub same_fields : (fs gs : Fields) → have_canonical fs ≡ true → have_canonical gs ≡ true → ((a : Text) (v : V) → FieldAmong a v fs → FieldAmong a v gs) → ((a : Text) (v : V) → FieldAmong a v gs → FieldAmong a v fs) → fs ≡ gs
same_fields no_fields no_fields h k f g = refl
same_fields no_fields (field b w gs) h k f g = absurd (g b w (inl (refl, refl)))
same_fields (field a v fs) no_fields h k f g = absurd (f a v (inl (refl, refl)))
same_fields (field a v fs) (field b w gs) h k f g =
    let p = field_parts a v fs h in
    let q = field_parts b w gs k in
    let e = first_is a b v w fs gs p.1 p.2 q.1 q.2 (f a v (inl (refl, refl))) (g b w (inl (refl, refl))) in
    let rest = same_fields fs gs p.2 q.2 (λ c u m. later_field a b c u w fs gs e.0 p.1 p.2 m (f c u (inr m))) (λ c u m. later_field b a c u v gs fs (sym e.0) q.1 q.2 m (g c u (inr m))) in
    λ i. field (e.0 i) (e.1 i) (rest i)

-- the field that is found is the one that stands there
found_case : (a b : Text) (v w : V) (fs : Fields) (t : Bool) → bytes_eq a b ≡ t → is_before b fs ≡ true → have_canonical fs ≡ true → ((field_of a fs ≡ Some v) ↔ FieldAmong a v fs) → (cond t (Some w) (field_of a fs) ≡ Some v) ↔ (((a ≡ b) × (v ≡ w)) ⊎ FieldAmong a v fs)
found_case a b v w fs true e h i d =
    let q = (bytes_eq-Decides a b).0 e in
    (λ k. inl (q, cc), λ k. ⊎_elim (λ p. let r = p.1 in cc) (λ m. absurd (never_before_itself b (before_each b fs h i b v (subst (λ c. FieldAmong c v fs) q m)))) k)
found_case a b v w fs false e h i d = (λ k. inr (d.0 k), λ k. ⊎_elim (λ p. let q = (bytes_eq-Decides a b).1 p.0 in cc) d.1 k)

pub field_found : (a : Text) (v : V) (fs : Fields) → have_canonical fs ≡ true → (field_of a fs ≡ Some v) ↔ FieldAmong a v fs
field_found a v no_fields h = (λ e. cc, λ m. absurd m)
field_found a v (field b w fs) h = let p = field_parts b w fs h in found_case a b v w fs (bytes_eq a b) refl p.1 p.2 (field_found a v fs p.2)

-- each value is the same as itself
mutual
  pub same_itself : (v : V) → Same v v
  same_itself (prim p) = refl
  same_itself (set_of vs) = (each_itself vs vs (λ u a. a), has_itself vs)
  same_itself (record_of fs) = (each_field_itself fs fs (λ b u a. a), has_field_itself fs)
  same_itself (extension n k) = (refl, refl)

  each_itself : (vs ws : Vs) → ((u : V) → Among u vs → Among u ws) → EachAmong vs ws
  each_itself no_values ws f = tt
  each_itself (value v vs) ws f = ((v, f v (inl refl), same_itself v), each_itself vs ws (λ u a. f u (inr a)))

  has_itself : (vs : Vs) (w : V) → Among w vs → HasSame vs w
  has_itself no_values w a = absurd a
  has_itself (value v vs) w (inl e) = inl (subst (Same v) (sym e) (same_itself v))
  has_itself (value v vs) w (inr a) = inr (has_itself vs w a)

  each_field_itself : (fs gs : Fields) → ((a : Text) (u : V) → FieldAmong a u fs → FieldAmong a u gs) → EachFieldAmong fs gs
  each_field_itself no_fields gs f = tt
  each_field_itself (field a v fs) gs f = ((v, f a v (inl (refl, refl)), same_itself v), each_field_itself fs gs (λ b u m. f b u (inr m)))

  has_field_itself : (fs : Fields) (b : Text) (w : V) → FieldAmong b w fs → HasSameField fs b w
  has_field_itself no_fields b w m = absurd m
  has_field_itself (field a v fs) b w (inl e) = inl (sym e.0, subst (Same v) (sym e.1) (same_itself v))
  has_field_itself (field a v fs) b w (inr m) = inr (has_field_itself fs b w m)

mutual
  pub same_is : (v w : V) → is_canonical v ≡ true → is_canonical w ≡ true → Same v w → v ≡ w
  same_is (prim p) (prim q) h k s = ap prim s
  same_is (set_of vs) (set_of ws) h k s =
      let p = both_hold (are_rising vs) (are_canonical vs) h in
      let q = both_hold (are_rising ws) (are_canonical ws) k in
      ap set_of (same_rising vs ws p.0 q.0
      (members_of vs ws p.1 q.1 s.0)
      (λ u a. has_is vs u p.1 (canonical_member ws q.1 u a) (s.1 u a)))
  same_is (record_of fs) (record_of gs) h k s =
      ap record_of (same_fields fs gs h k
      (fields_of fs gs h k s.0)
      (λ b u m. has_field_is fs b u h (canonical_field gs k b u m) (s.1 b u m)))
  same_is (extension m j) (extension n k) h i s = λ x. extension (s.0 x) (s.1 x)
  same_is v w h k s = absurd s

  members_of : (vs ws : Vs) → are_canonical vs ≡ true → are_canonical ws ≡ true → EachAmong vs ws → (u : V) → Among u vs → Among u ws
  members_of no_values ws h k s u a = absurd a
  members_of (value v vs) ws h k s u (inl e) =
      let r = s.0 in
      let q = same_is v r.0 (both_hold (is_canonical v) (are_canonical vs) h).0 (canonical_member ws k r.0 r.1) r.2 in
      subst (λ x. Among x ws) (sym (e ∙ q)) r.1
  members_of (value v vs) ws h k s u (inr a) = members_of vs ws (both_hold (is_canonical v) (are_canonical vs) h).1 k s.1 u a

  has_is : (vs : Vs) (w : V) → are_canonical vs ≡ true → is_canonical w ≡ true → HasSame vs w → Among w vs
  has_is no_values w h k s = s
  has_is (value v vs) w h k (inl s) = inl (sym (same_is v w (both_hold (is_canonical v) (are_canonical vs) h).0 k s))
  has_is (value v vs) w h k (inr s) = inr (has_is vs w (both_hold (is_canonical v) (are_canonical vs) h).1 k s)

  fields_of : (fs gs : Fields) → have_canonical fs ≡ true → have_canonical gs ≡ true → EachFieldAmong fs gs → (a : Text) (u : V) → FieldAmong a u fs → FieldAmong a u gs
  fields_of no_fields gs h k s a u m = absurd m
  fields_of (field b v fs) gs h k s a u (inl e) =
      let r = s.0 in
      let q = same_is v r.0 (field_parts b v fs h).0 (canonical_field gs k b r.0 r.1) r.2 in
      subst (λ x. FieldAmong x u gs) (sym e.0) (subst (λ x. FieldAmong b x gs) (sym (e.1 ∙ q)) r.1)
  fields_of (field b v fs) gs h k s a u (inr m) = fields_of fs gs (field_parts b v fs h).2 k s.1 a u m

  has_field_is : (fs : Fields) (b : Text) (w : V) → have_canonical fs ≡ true → is_canonical w ≡ true → HasSameField fs b w → FieldAmong b w fs
  has_field_is no_fields b w h k s = s
  has_field_is (field a v fs) b w h k (inl s) = inl (sym s.0, sym (same_is v w (field_parts a v fs h).0 k s.1))
  has_field_is (field a v fs) b w h k (inr s) = inr (has_field_is fs b w (field_parts a v fs h).2 k s)

pub sameness : (v w : V) → is_canonical v ≡ true → is_canonical w ≡ true → Same v w ↔ (v ≡ w)
sameness v w h k = (same_is v w h k, λ e. subst (Same v) e (same_itself v))
