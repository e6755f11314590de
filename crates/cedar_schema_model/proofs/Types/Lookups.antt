-- Attributes by their names: what a look-up finds, and attributes that are the same.
use Rattle.std.proofs.Common.{◌≡◌, Bool, true, false, cond, ◌&&◌, Option, Some, None, is_some, refl, sym, ap, ◌∙◌, subst, true≢false, is_lt, Ordering, Less, Equal, Greater}
use Rattle.std.specs.Str.{bytes_eq}
use Rattle.std.proofs.lemmas.Slice.Eq.{bytes_eq-Decides}
use Rattle.std.proofs.lemmas.Cmp.{nat_list_cmp_total, tied_itself}
use Rattle.std.proofs.lemmas.Map.Lookups.{exact_bytes}
use Rattle.std.specs.Ordering.{ordering_reverse}
use Rattle.cedar_expr_model.specs.Name.{Text}
use Rattle.cedar_expr_model.specs.Order.{text_cmp}
use Rattle.cedar_expr_model.proofs.Lists.{both_hold}
use Rattle.cedar_schema_model.specs.Types.{Ty, never, bool_type, long_type, string_type, any_entity, entity_types, any_set, set_type, record_type, extension_type, Attributes, no_attributes, attribute, Declared, attribute_named}
use Rattle.cedar_schema_model.specs.OfLaws.Formed.{is_well_formed_type, are_well_formed_attributes, is_before_attributes}

pub no_lie : {P : Type 0} → false ≡ true → P
no_lie e = absurd (true≢false (sym e))

pub no_none : {P : Type 0} {X : Type 0} {x : X} → ◌≡◌ {A = Option X} None (Some x) → P
no_none {P} {X} {x} e = no_lie (ap is_some e)

pub inside : {X : Type 0} {x y : X} → ◌≡◌ {A = Option X} (Some x) (Some y) → x ≡ y
inside e = cc

pub from_some : {X : Type 0} (o : Option X) → is_some o ≡ true → (x : X) × (o ≡ Some x)
from_some None e = no_lie e
from_some (Some x) e = (x, refl)

pub some_is : {X : Type 0} (o : Option X) (x : X) → o ≡ Some x → is_some o ≡ true
some_is o x e = ap is_some e

pub test_cases : {P : Type 0} (b : Bool) → (b ≡ true → P) → (b ≡ false → P) → P
test_cases true f g = f refl
test_cases false f g = g refl

-- what is declared
abbrev pub declares : Ty → Bool → Declared
declares t r = record { type = t; is_required = r }

pub less_is : (o : Ordering) → is_lt o ≡ true → o ≡ Less
less_is Less e = refl
less_is Equal e = no_lie e
less_is Greater e = no_lie e

pub text_less_apart : (a b : Text) → text_cmp a b ≡ Less → bytes_eq a b ≡ false
text_less_apart a b h = test_cases (bytes_eq a b) (λ e. let q = (bytes_eq-Decides a b).0 e in absurd (true≢false (sym (ap is_lt (sym (tied_itself nat_list_cmp_total b) ∙ subst (λ x. text_cmp x b ≡ Less) q h))))) (λ e. e)

pub same_text : (a : Text) → bytes_eq a a ≡ true
same_text a = (bytes_eq-Decides a a).1 refl

-- a look-up, at the first attribute and at the others
pub named_here : (n b : Text) (t : Ty) (r : Bool) (as_ : Attributes) → bytes_eq n b ≡ true → attribute_named n (attribute b t r as_) ≡ Some (declares t r)
named_here n b t r as_ e = ap (λ x. cond x (Some (declares t r)) (attribute_named n as_)) e

pub named_first : (b : Text) (t : Ty) (r : Bool) (as_ : Attributes) → attribute_named b (attribute b t r as_) ≡ Some (declares t r)
named_first b t r as_ = named_here b b t r as_ (same_text b)

pub named_later : (n b : Text) (t : Ty) (r : Bool) (as_ : Attributes) → bytes_eq n b ≡ false → attribute_named n (attribute b t r as_) ≡ attribute_named n as_
named_later n b t r as_ e = ap (λ x. cond x (Some (declares t r)) (attribute_named n as_)) e

pub named_cases : {P : Type 0} (n b : Text) (t : Ty) (r : Bool) (as_ : Attributes) (d : Declared) → attribute_named n (attribute b t r as_) ≡ Some d → (n ≡ b → declares t r ≡ d → P) → (bytes_eq n b ≡ false → attribute_named n as_ ≡ Some d → P) → P
named_cases n b t r as_ d h f g =
    test_cases (bytes_eq n b)
    (λ e. f ((bytes_eq-Decides n b).0 e) (inside (sym (named_here n b t r as_ e) ∙ h)))
    (λ e. g e (sym (named_later n b t r as_ e) ∙ h))

-- An induction on types, where the parts of a record are what look-ups find.
abbrev pub Parts : (Ty → Type 0) → Ty → Type 0
Parts P (set_type t) = P t
Parts P (record_type as_ o) = (n : Text) (d : Declared) → attribute_named n as_ ≡ Some d → P d.type
Parts P t = Unit {0}

module _ (P : Ty → Type 0) (step : (t : Ty) → Parts P t → P t) where
  mutual
    pub each_type : (t : Ty) → P t
    each_type never = step never tt
    each_type (bool_type b) = step (bool_type b) tt
    each_type long_type = step long_type tt
    each_type string_type = step string_type tt
    each_type any_entity = step any_entity tt
    each_type (entity_types ns) = step (entity_types ns) tt
    each_type any_set = step any_set tt
    each_type (set_type t) = step (set_type t) (each_type t)
    each_type (record_type as_ o) = step (record_type as_ o) (each_declared as_)
    each_type (extension_type n) = step (extension_type n) tt

    pub each_declared : (as_ : Attributes) (n : Text) (d : Declared) → attribute_named n as_ ≡ Some d → P d.type
    each_declared no_attributes n d h = no_none h
    each_declared (attribute b t r as_) n d h = named_cases n b t r as_ d h (λ q e. subst (λ (x : Declared). P x.type) e (each_type t)) (λ q e. each_declared as_ n d e)

-- well-formed attributes
abbrev pub Formed : Attributes → Type 0
Formed as_ = are_well_formed_attributes as_ ≡ true

pub formed_parts : (n : Text) (t : Ty) (r : Bool) (as_ : Attributes) → Formed (attribute n t r as_) → (is_well_formed_type t ≡ true) × (is_before_attributes n as_ ≡ true) × Formed as_
formed_parts n t r as_ w =
    let p = both_hold (is_well_formed_type t) (is_before_attributes n as_ && are_well_formed_attributes as_) w in
    let q = both_hold (is_before_attributes n as_) (are_well_formed_attributes as_) p.1 in
    (p.0, q.0, q.1)

pub before_later : (x b : Text) (as_ : Attributes) → text_cmp x b ≡ Less → is_before_attributes b as_ ≡ true → is_before_attributes x as_ ≡ true
before_later x b no_attributes h k = refl
before_later x b (attribute c t r as_) h k = ap is_lt (nat_list_cmp_total.trans x b c h (less_is (text_cmp b c) k))

-- a name before all isn't declared
pub absent : (x : Text) (as_ : Attributes) → is_before_attributes x as_ ≡ true → Formed as_ → attribute_named x as_ ≡ None
absent x no_attributes h w = refl
absent x (attribute b t r as_) h w =
    let p = formed_parts b t r as_ w in
    let l = less_is (text_cmp x b) h in
    named_later x b t r as_ (text_less_apart x b l) ∙ absent x as_ (before_later x b as_ l p.1) p.2

-- the others are found behind the first too
pub still_named : (n b : Text) (t : Ty) (r : Bool) (as_ : Attributes) (d : Declared) → Formed (attribute b t r as_) → attribute_named n as_ ≡ Some d → attribute_named n (attribute b t r as_) ≡ Some d
still_named n b t r as_ d w h =
    let p = formed_parts b t r as_ w in
    test_cases (bytes_eq n b)
    (λ e. no_none (sym (absent b as_ p.1 p.2) ∙ subst (λ x. attribute_named x as_ ≡ Some d) ((bytes_eq-Decides n b).0 e) h))
    (λ e. named_later n b t r as_ e ∙ h)

pub formed_at : (as_ : Attributes) → Formed as_ → (n : Text) (d : Declared) → attribute_named n as_ ≡ Some d → is_well_formed_type d.type ≡ true
formed_at no_attributes w n d h = no_none h
formed_at (attribute b t r as_) w n d h =
    let p = formed_parts b t r as_ w in
    named_cases n b t r as_ d h (λ q e. subst (λ (x : Declared). is_well_formed_type x.type ≡ true) e p.0) (λ q e. formed_at as_ p.2 n d e)

-- Attributes in which every look-up finds the same are the same.
same_tail : (b : Text) (t u : Ty) (r s : Bool) (as_ bs : Attributes) → Formed (attribute b t r as_) → Formed (attribute b u s bs) → ((n : Text) → attribute_named n (attribute b t r as_) ≡ attribute_named n (attribute b u s bs)) → (n : Text) → attribute_named n as_ ≡ attribute_named n bs
same_tail b t u r s as_ bs v w h n =
    let p = formed_parts b t r as_ v in
    let q = formed_parts b u s bs w in
    test_cases (bytes_eq n b)
    (λ e. subst (λ x. attribute_named x as_ ≡ attribute_named x bs) (sym ((bytes_eq-Decides n b).0 e)) (absent b as_ p.1 p.2 ∙ sym (absent b bs q.1 q.2)))
    (λ e. sym (named_later n b t r as_ e) ∙ (h n ∙ named_later n b u s bs e))

same_first : (b c : Text) (t u : Ty) (r s : Bool) (as_ bs : Attributes) → b ≡ c → Formed (attribute b t r as_) → Formed (attribute c u s bs) → ((n : Text) → attribute_named n (attribute b t r as_) ≡ attribute_named n (attribute c u s bs)) → (((n : Text) → attribute_named n as_ ≡ attribute_named n bs) → as_ ≡ bs) → attribute b t r as_ ≡ attribute c u s bs
same_first b c t u r s as_ bs q v w h rest =
    let w' : Formed (attribute b u s bs) = subst (λ x. Formed (attribute x u s bs)) (sym q) w in
    let h' : (n : Text) → attribute_named n (attribute b t r as_) ≡ attribute_named n (attribute b u s bs) = subst (λ x. (n : Text) → attribute_named n (attribute b t r as_) ≡ attribute_named n (attribute x u s bs)) (sym q) h in
    let e : declares t r ≡ declares u s = inside (sym (named_first b t r as_) ∙ (h' b ∙ named_first b u s bs)) in
    let et = ap (λ (x : Declared). x.type) e in
    let er = ap (λ (x : Declared). x.is_required) e in
    let k = rest (same_tail b t u r s as_ bs v w' h') in
    λ i. attribute (q i) (et i) (er i) (k i)

same_by : (o : Ordering) (b c : Text) (t u : Ty) (r s : Bool) (as_ bs : Attributes) → text_cmp b c ≡ o → Formed (attribute b t r as_) → Formed (attribute c u s bs) → ((n : Text) → attribute_named n (attribute b t r as_) ≡ attribute_named n (attribute c u s bs)) → (((n : Text) → attribute_named n as_ ≡ attribute_named n bs) → as_ ≡ bs) → attribute b t r as_ ≡ attribute c u s bs
same_by Less b c t u r s as_ bs e v w h rest = no_none (sym (absent b (attribute c u s bs) (ap is_lt e) w) ∙ (sym (h b) ∙ named_first b t r as_))
same_by Equal b c t u r s as_ bs e v w h rest = same_first b c t u r s as_ bs (exact_bytes b c e) v w h rest
same_by Greater b c t u r s as_ bs e v w h rest = no_none (sym (absent c (attribute b t r as_) (ap is_lt (nat_list_cmp_total.antisymm c b ∙ ap ordering_reverse e)) v) ∙ (h c ∙ named_first c u s bs))

pub same_attributes : (as_ bs : Attributes) → Formed as_ → Formed bs → ((n : Text) → attribute_named n as_ ≡ attribute_named n bs) → as_ ≡ bs
same_attributes no_attributes no_attributes v w h = refl
same_attributes no_attributes (attribute c u s bs) v w h = no_none (h c ∙ named_first c u s bs)
same_attributes (attribute b t r as_) no_attributes v w h = no_none (sym (h b) ∙ named_first b t r as_)
same_attributes (attribute b t r as_) (attribute c u s bs) v w h = same_by (text_cmp b c) b c t u r s as_ bs refl v w h (same_attributes as_ bs (formed_parts b t r as_ v).2 (formed_parts c u s bs w).2)
