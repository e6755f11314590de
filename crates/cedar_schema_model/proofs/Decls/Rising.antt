-- The attributes of resolved types rise by name.
use Rattle.std.proofs.Common.{◌≡◌, ℕ, zero, suc, length, Bool, true, ◌&&◌, Option, Some, None, refl, ap, ◌∙◌}
use Rattle.std.specs.Ordering.{is_lt, match_ordering, ordering_reverse}
use Rattle.std.specs.declared.cmp.Ordering.{Ordering}
use Rattle.std.specs.declared.cmp.Ordering.TheVariants.{Less, Equal, Greater}
use Rattle.std.proofs.lemmas.Cmp.{nat_list_cmp_total}
use Rattle.cedar_expr_model.specs.Name.{Text, Name, name_eq}
use Rattle.cedar_expr_model.specs.Order.{text_cmp}
use Rattle.cedar_expr_model.proofs.Lists.{both_hold, hold_both}
use Rattle.cedar_schema_model.specs.Types.{Ty, Attributes, no_attributes, attribute}
use Rattle.cedar_schema_model.specs.Reference.{Namespace, Meant, meant_common, meant_entity}
use Rattle.cedar_schema_model.specs.Declarations.{TypeExpr, bool_expr, long_expr, string_expr, set_expr, record_expr, reference, extension_expr, FieldExprs, no_field_exprs, field_expr, CommonDeclaration, Declarations, common_name, meant}
use Rattle.cedar_schema_model.proofs.Named.{defined_by}
use Rattle.cedar_schema_model.specs.Resolved.{with_attribute, type_meant, resolved_by, resolved_fields_by, common_within, common_of, resolved}
use Rattle.std.specs.Prelude.{find}
use Rattle.cedar_schema_model.specs.OfLaws.Formed.{is_before_attributes}
use Rattle.cedar_schema_model.specs.BagLaws.{has_rising, are_rising}

-- a name that is above another has that one below it
flipped : (a b : Text) → text_cmp a b ≡ Greater → text_cmp b a ≡ Less
flipped a b e = nat_list_cmp_total.antisymm b a ∙ ap ordering_reverse e

-- what stands before these and before a name stands before these with that name put in its place
before_case : (b a : Text) (t : Ty) (r : Bool) (c : Text) (u : Ty) (q : Bool) (as_ : Attributes) (o : Ordering) → is_lt (text_cmp b a) ≡ true → is_lt (text_cmp b c) ≡ true
    → is_before_attributes b (match_ordering o (attribute a t r (attribute c u q as_)) (attribute c u q as_) (attribute c u q (with_attribute a t r as_))) ≡ true
before_case b a t r c u q as_ Less e f = e
before_case b a t r c u q as_ Equal e f = f
before_case b a t r c u q as_ Greater e f = f

before : (b a : Text) (t : Ty) (r : Bool) (as_ : Attributes) → is_lt (text_cmp b a) ≡ true → is_before_attributes b as_ ≡ true → is_before_attributes b (with_attribute a t r as_) ≡ true
before b a t r no_attributes e f = e
before b a t r (attribute c u q as_) e f = before_case b a t r c u q as_ (text_cmp a c) e f

put_case : (a : Text) (t : Ty) (r : Bool) (c : Text) (u : Ty) (q : Bool) (as_ : Attributes) (o : Ordering) → text_cmp a c ≡ o → has_rising t ≡ true → are_rising (attribute c u q as_) ≡ true → are_rising (with_attribute a t r as_) ≡ true
    → are_rising (match_ordering o (attribute a t r (attribute c u q as_)) (attribute c u q as_) (attribute c u q (with_attribute a t r as_))) ≡ true
put_case a t r c u q as_ Less e h k rest = hold_both (has_rising t) _ h (hold_both (is_lt (text_cmp a c)) _ (ap is_lt e) k)
put_case a t r c u q as_ Equal e h k rest = k
put_case a t r c u q as_ Greater e h k rest =
    let p = both_hold (has_rising u) (is_before_attributes c as_ && are_rising as_) k in
    let s = both_hold (is_before_attributes c as_) (are_rising as_) p.1 in
    hold_both (has_rising u) _ p.0 (hold_both (is_before_attributes c (with_attribute a t r as_)) _ (before c a t r as_ (ap is_lt (flipped a c e)) s.0) rest)

put : (a : Text) (t : Ty) (r : Bool) (as_ : Attributes) → has_rising t ≡ true → are_rising as_ ≡ true → are_rising (with_attribute a t r as_) ≡ true
put a t r no_attributes h k = hold_both (has_rising t) _ h refl
put a t r (attribute c u q as_) h k =
    let p = both_hold (has_rising u) (is_before_attributes c as_ && are_rising as_) k in
    let s = both_hold (is_before_attributes c as_) (are_rising as_) p.1 in
    put_case a t r c u q as_ (text_cmp a c) refl h k (put a t r as_ h s.1)

meant_rises : (f : Name → Ty) → ((n : Name) → has_rising (f n) ≡ true) → (o : Option Meant) → has_rising (type_meant f o) ≡ true
meant_rises f h None = refl
meant_rises f h (Some (meant_common n)) = h n
meant_rises f h (Some (meant_entity n)) = refl

module _ (f : Name → Ty) (h : (n : Name) → has_rising (f n) ≡ true) (d : Declarations) where
  mutual
    pub rises : (ns : Namespace) (t : TypeExpr) → has_rising (resolved_by f d ns t) ≡ true
    rises ns bool_expr = refl
    rises ns long_expr = refl
    rises ns string_expr = refl
    rises ns (set_expr t) = rises ns t
    rises ns (record_expr fs) = fields_rise ns fs
    rises ns (reference k n) = meant_rises f h (meant d (record { namespace = ns; kind = k; name = n }))
    rises ns (extension_expr n) = refl

    pub fields_rise : (ns : Namespace) (fs : FieldExprs) → are_rising (resolved_fields_by f d ns fs) ≡ true
    fields_rise ns no_field_exprs = refl
    fields_rise ns (field_expr a t r fs) = put a (resolved_by f d ns t) r (resolved_fields_by f d ns fs) (rises ns t) (fields_rise ns fs)

defined_rises : (f : Name → Ty) → ((n : Name) → has_rising (f n) ≡ true) → (d : Declarations) (o : Option CommonDeclaration) → has_rising (defined_by f d o) ≡ true
defined_rises f h d None = refl
defined_rises f h d (Some c) = rises f h d c.namespace c.definition

common_rises : (k : ℕ) (d : Declarations) (n : Name) → has_rising (common_within k d n) ≡ true
common_rises zero d n = refl
common_rises (suc k) d n = defined_rises (common_within k d) (common_rises k d) d (find (λ (x : CommonDeclaration). name_eq n (common_name x)) d.commons)

pub resolved_rises : (d : Declarations) (ns : Namespace) (t : TypeExpr) → has_rising (resolved d ns t) ≡ true
resolved_rises d ns t = rises (common_of d) (common_rises (length d.commons) d) d ns t
