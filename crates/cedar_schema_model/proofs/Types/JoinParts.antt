-- Joins of attributes, by look-up.
use Rattle.std.proofs.Common.{◌≡◌, Bool, true, false, cond, ◌&&◌, ◌||◌, Option, Some, None, IfSome, refl, sym, ap, ◌∙◌, subst, is_lt}
use Rattle.std.specs.Str.{bytes_eq}
use Rattle.std.proofs.lemmas.Slice.Eq.{bytes_eq-Decides}
use Rattle.cedar_expr_model.specs.Name.{Text}
use Rattle.cedar_expr_model.specs.Order.{text_cmp}
use Rattle.cedar_expr_model.proofs.Lists.{hold_both}
use Rattle.cedar_schema_model.specs.Types.{Ty, Attributes, no_attributes, attribute, Declared, attribute_named, Mode, strict, permissive}
use Rattle.cedar_schema_model.specs.Subtype.{carries}
use Rattle.cedar_schema_model.specs.OfLaws.Formed.{is_well_formed_type, are_well_formed_attributes, is_before_attributes}
use Rattle.cedar_schema_model.specs.Join.{agree, declared_in_common, joined_with, kept_attribute, join, attributes_join}
use Rattle.cedar_schema_model.proofs.Types.Lookups.{no_lie, no_none, inside, test_cases, declares, less_is, named_first, named_later, absent, before_later, Formed, formed_parts}

-- a fact of what a test gives
pub if_given : {X : Type 0} (P : X → Type 0) (c : Bool) (x : X) → (c ≡ true → P x) → IfSome (cond c (Some x) None) P
if_given P true x h = h refl
if_given P false x h = tt

pub given_if : {X : Type 0} (c : Bool) (x y : X) → cond c (Some x) None ≡ Some y → (c ≡ true) × (x ≡ y)
given_if true x y e = (refl, inside e)
given_if false x y e = no_none e

pub given : {X : Type 0} (c : Bool) (x : X) → c ≡ true → cond c (Some x) None ≡ Some x
given c x e = ap (λ t. cond t (Some x) None) e

pub for_some : {X : Type 0} (P : X → Type 0) (o : Option X) (x : X) → IfSome o P → o ≡ Some x → P x
for_some P None x h e = no_none e
for_some P (Some y) x h e = subst P (inside e) h

-- what two declarations have in common
abbrev pub declared_join : Mode → Option Declared → Option Declared → Option Declared
declared_join m None e = None
declared_join m (Some d) e = joined_with m d.is_required (join m d.type) e

pub record Joint (m : Mode) (x y : Option Declared) (e : Declared) : Type 0 where
  pub first : Declared
  pub second : Declared
  pub first_is : x ≡ Some first
  pub second_is : y ≡ Some second
  pub types : join m first.type second.type ≡ Some e.type
  pub flags : agree m first.is_required second.is_required ≡ true
  pub required : (first.is_required && second.is_required) ≡ e.is_required

common_parts : (m : Mode) (r s : Bool) (o : Option Ty) (e : Declared) → declared_in_common m r s o ≡ Some e → (o ≡ Some e.type) × (agree m r s ≡ true) × ((r && s) ≡ e.is_required)
common_parts m r s None e h = no_none h
common_parts m r s (Some t) e h =
    let f = given_if (agree m r s) (declares t (r && s)) e h in
    (ap Some (ap (λ (d : Declared). d.type) f.1), f.0, ap (λ (d : Declared). d.is_required) f.1)

pub joint : (m : Mode) (x y : Option Declared) (e : Declared) → declared_join m x y ≡ Some e → Joint m x y e
joint m None y e h = no_none h
joint m (Some d) None e h = no_none h
joint m (Some d) (Some c) e h =
    let f = common_parts m d.is_required c.is_required (join m d.type c.type) e h in
    record { first = d; second = c; first_is = refl; second_is = refl; types = f.0; flags = f.1; required = f.2 }

pub joins : (m : Mode) (x y : Option Declared) (d c : Declared) (t : Ty) → x ≡ Some d → y ≡ Some c → join m d.type c.type ≡ Some t → agree m d.is_required c.is_required ≡ true → declared_join m x y ≡ Some (declares t (d.is_required && c.is_required))
joins m x y d c t p q e f =
    let start : declared_join m x y ≡ declared_join m (Some d) (Some c) = λ i. declared_join m (p i) (q i) in
    start ∙ (ap (declared_in_common m d.is_required c.is_required) e ∙ given (agree m d.is_required c.is_required) (declares t (d.is_required && c.is_required)) f)

-- look-ups in a join
kept_first : (b : Text) (j : Option Declared) (js : Attributes) → attribute_named b js ≡ None → attribute_named b (kept_attribute b j js) ≡ j
kept_first b None js h = h
kept_first b (Some d) js h = named_first b d.type d.is_required js

kept_later : (n b : Text) (j : Option Declared) (js : Attributes) → bytes_eq n b ≡ false → attribute_named n (kept_attribute b j js) ≡ attribute_named n js
kept_later n b None js h = refl
kept_later n b (Some d) js h = named_later n b d.type d.is_required js h

pub join_named : (m : Mode) (as_ bs : Attributes) → Formed as_ → (n : Text) → attribute_named n (attributes_join m as_ bs) ≡ declared_join m (attribute_named n as_) (attribute_named n bs)
join_named m no_attributes bs w n = refl
join_named m (attribute b t r as_) bs w n =
    let p = formed_parts b t r as_ w in
    let j = joined_with m r (join m t) (attribute_named b bs) in
    let js = attributes_join m as_ bs in
    let none : attribute_named b js ≡ None = join_named m as_ bs p.2 b ∙ ap (λ x. declared_join m x (attribute_named b bs)) (absent b as_ p.1 p.2) in
    test_cases (bytes_eq n b)
    (λ e. subst (λ x. attribute_named x (kept_attribute b j js) ≡ declared_join m (attribute_named x (attribute b t r as_)) (attribute_named x bs)) (sym ((bytes_eq-Decides n b).0 e))
    (kept_first b j js none ∙ sym (ap (λ x. declared_join m x (attribute_named b bs)) (named_first b t r as_))))
    (λ e. kept_later n b j js e ∙ (join_named m as_ bs p.2 n ∙ sym (ap (λ x. declared_join m x (attribute_named n bs)) (named_later n b t r as_ e))))

-- joins are well-formed
kept_before : (x b : Text) (j : Option Declared) (js : Attributes) → is_lt (text_cmp x b) ≡ true → is_before_attributes x js ≡ true → is_before_attributes x (kept_attribute b j js) ≡ true
kept_before x b None js e h = h
kept_before x b (Some d) js e h = e

join_before : (m : Mode) (x : Text) (as_ bs : Attributes) → Formed as_ → is_before_attributes x as_ ≡ true → is_before_attributes x (attributes_join m as_ bs) ≡ true
join_before m x no_attributes bs w h = refl
join_before m x (attribute b t r as_) bs w h =
    let p = formed_parts b t r as_ w in
    kept_before x b (joined_with m r (join m t) (attribute_named b bs)) (attributes_join m as_ bs) h
    (join_before m x as_ bs p.2 (before_later x b as_ (less_is (text_cmp x b) h) p.1))

kept_formed : (b : Text) (j : Option Declared) (js : Attributes) → IfSome j (λ d. is_well_formed_type d.type ≡ true) → is_before_attributes b js ≡ true → Formed js → Formed (kept_attribute b j js)
kept_formed b None js t h w = w
kept_formed b (Some d) js t h w = hold_both (is_well_formed_type d.type) (is_before_attributes b js && are_well_formed_attributes js) t (hold_both (is_before_attributes b js) (are_well_formed_attributes js) h w)

-- a fact of the type of what is declared in common
common_type : (P : Ty → Type 0) (m : Mode) (r s : Bool) (o : Option Ty) → IfSome o P → IfSome (declared_in_common m r s o) (λ d. P d.type)
common_type P m r s None h = tt
common_type P m r s (Some t) h = if_given (λ (d : Declared). P d.type) (agree m r s) (declares t (r && s)) (λ e. h)

pub joined_type : (P : Ty → Type 0) (m : Mode) (r : Bool) (f : Ty → Option Ty) (y : Option Declared) → ((d : Declared) → y ≡ Some d → IfSome (f d.type) P) → IfSome (joined_with m r f y) (λ d. P d.type)
joined_type P m r f None h = tt
joined_type P m r f (Some d) h = common_type P m r d.is_required (f d.type) (h d refl)

pub joined_formed : (m : Mode) (b : Text) (t : Ty) (r : Bool) (as_ bs : Attributes) → Formed (attribute b t r as_) → ((d : Declared) → attribute_named b bs ≡ Some d → IfSome (join m t d.type) (λ j. is_well_formed_type j ≡ true)) → Formed (attributes_join m as_ bs) → Formed (attributes_join m (attribute b t r as_) bs)
joined_formed m b t r as_ bs w h rest =
    let p = formed_parts b t r as_ w in
    kept_formed b (joined_with m r (join m t) (attribute_named b bs)) (attributes_join m as_ bs)
    (joined_type (λ j. is_well_formed_type j ≡ true) m r (join m t) (attribute_named b bs) h)
    (join_before m b as_ bs p.2 p.1) rest

-- flags
pub agree_same : (m : Mode) (x : Bool) → agree m x x ≡ true
agree_same permissive x = refl
agree_same strict true = refl
agree_same strict false = refl

pub agree_back : (m : Mode) (x y : Bool) → agree m x y ≡ agree m y x
agree_back permissive x y = refl
agree_back strict true true = refl
agree_back strict true false = refl
agree_back strict false true = refl
agree_back strict false false = refl

pub agree_strict : (x y : Bool) → agree strict x y ≡ true → x ≡ y
agree_strict true true h = refl
agree_strict true false h = no_lie h
agree_strict false true h = no_lie h
agree_strict false false h = refl

pub carries_agree : (m : Mode) (x y z : Bool) → carries m x z ≡ true → carries m y z ≡ true → agree m x y ≡ true
carries_agree permissive x y z h k = refl
carries_agree strict true true z h k = refl
carries_agree strict false false z h k = refl
carries_agree strict true false true h k = no_lie k
carries_agree strict true false false h k = no_lie h
carries_agree strict false true true h k = no_lie h
carries_agree strict false true false h k = no_lie k

pub carries_and : (m : Mode) (x y z : Bool) → carries m x z ≡ true → carries m y z ≡ true → carries m (x && y) z ≡ true
carries_and m true y z h k = k
carries_and m false y z h k = h

pub first_carries : (m : Mode) (x y : Bool) → agree m x y ≡ true → carries m x (x && y) ≡ true
first_carries permissive true true h = refl
first_carries permissive true false h = refl
first_carries permissive false y h = refl
first_carries strict true true h = refl
first_carries strict true false h = no_lie h
first_carries strict false y h = refl

pub second_carries : (m : Mode) (x y : Bool) → agree m x y ≡ true → carries m y (x && y) ≡ true
second_carries permissive true true h = refl
second_carries permissive true false h = refl
second_carries permissive false true h = refl
second_carries permissive false false h = refl
second_carries strict true true h = refl
second_carries strict true false h = no_lie h
second_carries strict false true h = no_lie h
second_carries strict false false h = refl

pub and_back : (x y : Bool) → (x && y) ≡ (y && x)
and_back true true = refl
and_back true false = refl
and_back false true = refl
and_back false false = refl

pub or_back : (x y : Bool) → (x || y) ≡ (y || x)
or_back true true = refl
or_back true false = refl
or_back false true = refl
or_back false false = refl
