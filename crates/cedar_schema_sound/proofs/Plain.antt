-- The types that declarations make are well-formed, and the type of all sets stands in none, where the names of their entity types are
-- well-formed.
use Rattle.std.proofs.Common.{◌≡◌, ◌&&◌, ℕ, zero, suc, length, List, [], ◌∷◌, Bool, true, false, cond, map, Option, Some, None, option_map, refl, sym, ap, ◌∙◌}
use Rattle.std.specs.Prelude.{Contains, find, option_and_then}
use Rattle.std.specs.Ordering.{is_lt, match_ordering, ordering_reverse}
use Rattle.std.specs.declared.cmp.Ordering.{Ordering}
use Rattle.std.specs.declared.cmp.Ordering.TheVariants.{Less, Equal, Greater}
use Rattle.std.proofs.lemmas.Cmp.{nat_list_cmp_total}
use Rattle.cedar_expr_model.specs.Name.{Text, Name, name_eq, is_well_formed}
use Rattle.cedar_expr_model.specs.Order.{text_cmp}
use Rattle.cedar_expr_model.proofs.Equality.{name_eq-Decides}
use Rattle.cedar_expr_model.proofs.Lists.{both_hold, hold_both, found-Decides}
use Rattle.cedar_schema_model.specs.Types.{Ty, Attributes, no_attributes, attribute, Declared, attribute_named}
use Rattle.cedar_schema_model.specs.Schema.{EntityType}
use Rattle.cedar_schema_model.specs.Reference.{Namespace, Reference, Meant, meant_common, meant_entity}
use Rattle.cedar_schema_model.specs.Declarations.{TypeExpr, bool_expr, long_expr, string_expr, set_expr, record_expr, reference, extension_expr, FieldExprs, no_field_exprs, field_expr, KindExpr, standard_expr, enumerated_expr, external_expr, CommonDeclaration, EntityDeclaration, Declarations, common_name, entity_name, entity_names, meant}
use Rattle.cedar_schema_model.specs.Resolved.{with_attribute, type_meant, resolved_by, resolved_fields_by, common_within, common_of, resolved_kind, resolved_entity, schema_of}
use Rattle.cedar_schema_model.specs.Conforming.{of_kind, attributes_at}
use Rattle.cedar_schema_model.specs.OfLaws.Formed.{is_well_formed_type, are_well_formed_attributes, is_before_attributes}
use Rattle.cedar_schema_model.specs.TypeLaws.{has_no_any_set, have_no_any_set, Formed, Free, HasPlainAttributes}
use Rattle.cedar_schema_model.proofs.Named.{defined_by}
use Rattle.cedar_schema_model.proofs.Decls.Faults.{meant_is_declared}
use Rattle.cedar_schema_model.proofs.Types.Lookups.{no_none, named_cases, formed_at}

-- the first of a map is the map of the first
find_step : {X Y : Type 0} (f : X → Y) (b : Bool) (x : X) (o : Option X) (p : Option Y) → p ≡ option_map f o → cond b (Some (f x)) p ≡ option_map f (cond b (Some x) o)
find_step f true x o p h = refl
find_step f false x o p h = h

find_map : {X Y : Type 0} (p : Y → Bool) (f : X → Y) (xs : List X) → find p (map f xs) ≡ option_map f (find (λ x. p (f x)) xs)
find_map p f [] = refl
find_map p f (x ∷ xs) = find_step f (p (f x)) x (find (λ y. p (f y)) xs) (find p (map f xs)) (find_map p f xs)

-- a name that is above another has that one below it
flipped : (a b : Text) → text_cmp a b ≡ Greater → text_cmp b a ≡ Less
flipped a b e = nat_list_cmp_total.antisymm b a ∙ ap ordering_reverse e

-- what stands before these and before a name stands before these with that name put in its place
before_case : (b a : Text) (t : Ty) (r : Bool) (c : Text) (u : Ty) (q : Bool) (as_ : Attributes) (o : Ordering) → is_lt (text_cmp b a) ≡ true → is_lt (text_cmp b c) ≡ true
    → is_before_attributes b (match_ordering o (attribute a t r (attribute c u q as_)) (attribute c u q as_) (attribute c u q (with_attribute a t r as_))) ≡ true
before_case b a t r c u q as_ Less e f = e
before_case b a t r c u q as_ Equal e f = f
before_case b a t r c u q as_ Greater e f = f

before : (b a : Text) (t : Ty) (r : Bool) (as_ : Attributes) → is_lt (text_cmp b a) ≡ true → is_before_attributes b as_ ≡ true → is_before_attributes b (with_attribute a t r as_) ≡ true
before b a t r no_attributes e f = e
before b a t r (attribute c u q as_) e f = before_case b a t r c u q as_ (text_cmp a c) e f

-- with one more attribute they are still well-formed
formed_case : (a : Text) (t : Ty) (r : Bool) (c : Text) (u : Ty) (q : Bool) (as_ : Attributes) (o : Ordering) → text_cmp a c ≡ o → Formed t → are_well_formed_attributes (attribute c u q as_) ≡ true → are_well_formed_attributes (with_attribute a t r as_) ≡ true
    → are_well_formed_attributes (match_ordering o (attribute a t r (attribute c u q as_)) (attribute c u q as_) (attribute c u q (with_attribute a t r as_))) ≡ true
formed_case a t r c u q as_ Less e h k rest = hold_both (is_well_formed_type t) _ h (hold_both (is_lt (text_cmp a c)) _ (ap is_lt e) k)
formed_case a t r c u q as_ Equal e h k rest = k
formed_case a t r c u q as_ Greater e h k rest =
    let p = both_hold (is_well_formed_type u) (is_before_attributes c as_ && are_well_formed_attributes as_) k in
    let s = both_hold (is_before_attributes c as_) (are_well_formed_attributes as_) p.1 in
    hold_both (is_well_formed_type u) _ p.0 (hold_both (is_before_attributes c (with_attribute a t r as_)) _ (before c a t r as_ (ap is_lt (flipped a c e)) s.0) rest)

formed_more : (a : Text) (t : Ty) (r : Bool) (as_ : Attributes) → Formed t → are_well_formed_attributes as_ ≡ true → are_well_formed_attributes (with_attribute a t r as_) ≡ true
formed_more a t r no_attributes h k = hold_both (is_well_formed_type t) _ h refl
formed_more a t r (attribute c u q as_) h k =
    let p = both_hold (is_well_formed_type u) (is_before_attributes c as_ && are_well_formed_attributes as_) k in
    let s = both_hold (is_before_attributes c as_) (are_well_formed_attributes as_) p.1 in
    formed_case a t r c u q as_ (text_cmp a c) refl h k (formed_more a t r as_ h s.1)

-- and free
free_case : (a : Text) (t : Ty) (r : Bool) (c : Text) (u : Ty) (q : Bool) (as_ : Attributes) (o : Ordering) → Free t → have_no_any_set (attribute c u q as_) ≡ true → have_no_any_set (with_attribute a t r as_) ≡ true
    → have_no_any_set (match_ordering o (attribute a t r (attribute c u q as_)) (attribute c u q as_) (attribute c u q (with_attribute a t r as_))) ≡ true
free_case a t r c u q as_ Less h k rest = hold_both (has_no_any_set t) _ h k
free_case a t r c u q as_ Equal h k rest = k
free_case a t r c u q as_ Greater h k rest = hold_both (has_no_any_set u) _ (both_hold (has_no_any_set u) (have_no_any_set as_) k).0 rest

free_more : (a : Text) (t : Ty) (r : Bool) (as_ : Attributes) → Free t → have_no_any_set as_ ≡ true → have_no_any_set (with_attribute a t r as_) ≡ true
free_more a t r no_attributes h k = hold_both (has_no_any_set t) _ h refl
free_more a t r (attribute c u q as_) h k = free_case a t r c u q as_ (text_cmp a c) h k (free_more a t r as_ h (both_hold (has_no_any_set u) (have_no_any_set as_) k).1)

free_at : (as_ : Attributes) → have_no_any_set as_ ≡ true → (n : Text) (d : Declared) → attribute_named n as_ ≡ Some d → Free d.type
free_at no_attributes w n d h = no_none h
free_at (attribute b t r as_) w n d h =
    let p = both_hold (has_no_any_set t) (have_no_any_set as_) w in
    named_cases n b t r as_ d h (λ q e. ap (λ (x : Declared). has_no_any_set x.type) (sym e) ∙ p.0) (λ q e. free_at as_ p.1 n d e)

-- both of a type, and of attributes
abbrev IsPlain : Ty → Type 0
IsPlain t = Formed t × Free t

abbrev ArePlain : Attributes → Type 0
ArePlain as_ = (are_well_formed_attributes as_ ≡ true) × (have_no_any_set as_ ≡ true)

-- the names of the entity types are well-formed
abbrev pub AreNamed : Declarations → Type 0
AreNamed d = (n : Name) → Contains (entity_names d) n → is_well_formed n ≡ true

module _ (d : Declarations) (named : AreNamed d) where
  module _ (f : Name → Ty) (h : (n : Name) → IsPlain (f n)) where
    meant_plain : (r : Reference) (o : Option Meant) → meant d r ≡ o → IsPlain (type_meant f o)
    meant_plain r None e = (refl, refl)
    meant_plain r (Some (meant_common n)) e = h n
    meant_plain r (Some (meant_entity n)) e =
        let there = (found-Decides name_eq name_eq-Decides n (entity_names d)).0 (meant_is_declared d r (meant_entity n) e) in
        let formed = named n there in
        (hold_both (is_well_formed n && true) true (hold_both (is_well_formed n) true formed refl) refl, refl)

    mutual
      expr_plain : (ns : Namespace) (t : TypeExpr) → IsPlain (resolved_by f d ns t)
      expr_plain ns bool_expr = (refl, refl)
      expr_plain ns long_expr = (refl, refl)
      expr_plain ns string_expr = (refl, refl)
      expr_plain ns (set_expr t) = expr_plain ns t
      expr_plain ns (record_expr fs) = fields_plain ns fs
      expr_plain ns (reference k n) = meant_plain (record { namespace = ns; kind = k; name = n }) (meant d (record { namespace = ns; kind = k; name = n })) refl
      expr_plain ns (extension_expr n) = (refl, refl)

      fields_plain : (ns : Namespace) (fs : FieldExprs) → ArePlain (resolved_fields_by f d ns fs)
      fields_plain ns no_field_exprs = (refl, refl)
      fields_plain ns (field_expr a t r fs) =
          let p = expr_plain ns t in
          let q = fields_plain ns fs in
          (formed_more a (resolved_by f d ns t) r (resolved_fields_by f d ns fs) p.0 q.0, free_more a (resolved_by f d ns t) r (resolved_fields_by f d ns fs) p.1 q.1)

    defined_plain : (o : Option CommonDeclaration) → IsPlain (defined_by f d o)
    defined_plain None = (refl, refl)
    defined_plain (Some c) = expr_plain c.namespace c.definition

  common_plain : (k : ℕ) (n : Name) → IsPlain (common_within k d n)
  common_plain zero n = (refl, refl)
  common_plain (suc k) n = defined_plain (common_within k d) (common_plain k) (find (λ (x : CommonDeclaration). name_eq n (common_name x)) d.commons)

  -- what is declared of an attribute of an entity type
  kind_plain : (a : Text) (ns : Namespace) (k : KindExpr) (x : Declared) → attribute_named a (attributes_at (of_kind (resolved_kind d ns k))) ≡ Some x → IsPlain x.type
  kind_plain a ns (standard_expr fs t) x h =
      let p = fields_plain (common_of d) (common_plain (length d.commons)) ns fs in
      (formed_at (resolved_fields_by (common_of d) d ns fs) p.0 a x h, free_at (resolved_fields_by (common_of d) d ns fs) p.1 a x h)
  kind_plain a ns (enumerated_expr ids) x h = no_none h
  kind_plain a ns external_expr x h = no_none h

  abbrev found_of : Text → Option EntityType → Option Declared
  found_of a o = option_and_then (λ (e : EntityType). attribute_named a (attributes_at (of_kind e.kind))) o

  found_plain : (a : Text) (o : Option EntityDeclaration) (x : Declared) → found_of a (option_map (resolved_entity d) o) ≡ Some x → IsPlain x.type
  found_plain a None x h = no_none h
  found_plain a (Some t) x h = kind_plain a t.namespace t.kind x h

  pub schema_plain : HasPlainAttributes (schema_of d)
  schema_plain a n x h =
      found_plain a (find (λ (t : EntityDeclaration). name_eq n (entity_name t)) d.entities) x
      (ap (found_of a) (sym (find_map (λ (t : EntityType). name_eq n t.name) (resolved_entity d) d.entities)) ∙ h)
