-- The schema of well-formed declarations is orderly.
use Rattle.std.proofs.Common.{◌≡◌, List, [], ◌∷◌, Bool, true, false, if◌then◌else◌, ◌&&◌, Option, Some, None, refl, ap, ◌∙◌, subst, ⊎_elim, Ordering, Less, Equal, Greater}
use Rattle.std.specs.Prelude.{Contains, is_none, option_map, find, ℕ, zero, suc, length}
use Rattle.std.specs.Ordering.{match_ordering}
use Rattle.cedar_expr_model.specs.Name.{Name, Text, name_eq}
use Rattle.cedar_expr_model.specs.Order.{text_cmp}
use Rattle.cedar_expr_model.proofs.Lists.{both_hold, hold_both, map_from, contains_head, contains_tail}
use Rattle.cedar_schema_model.specs.Types.{Ty, entity_types, set_type, record_type, Attributes, no_attributes, attribute, attribute_named}
use Rattle.cedar_schema_model.specs.Schema.{EntityType, Action}
use Rattle.cedar_schema_model.specs.OfLaws.Formed.{is_before_attributes}
use Rattle.cedar_schema_model.specs.Reference.{Namespace, Meant, meant_common, meant_entity}
use Rattle.cedar_schema_model.specs.Declarations.{TypeExpr, bool_expr, long_expr, string_expr, set_expr, record_expr, reference, extension_expr, FieldExprs, no_field_exprs, field_expr, KindExpr, standard_expr, enumerated_expr, external_expr, CommonDeclaration, Declarations, common_name, meant}
use Rattle.cedar_schema_model.specs.WellFormed.{IsWellFormed}
use Rattle.cedar_schema_model.specs.Resolved.{with_attribute, type_meant, resolved_by, resolved_fields_by, common_within, common_of, resolved, attributes_of_record, resolved_kind, resolved_entity, resolved_action, schema_of}
use Rattle.cedar_schema_model.proofs.Named.{defined_by}
use Rattle.cedar_schema_model.specs.BagLaws.{has_rising, are_rising}
use Rattle.cedar_schema_model.proofs.Types.Lookups.{less_is, text_less_apart, named_later, before_later}
use Rattle.cedar_schema_model.proofs.Decls.Environments.{declares_action-Decides}
use Rattle.cedar_schema_model.proofs.Decls.Named.{ancestors_named, principals_named, resources_named}
use Rattle.cedar_schema_model.proofs.Decls.Rising.{resolved_rises}
use Rattle.cedar_schema_model.proofs.Decls.Schema.{same_actions, types_apart}
use Rattle.cedar_typechecker_model.specs.OfLaws.Simple.{is_alone, is_simple, are_simple, is_simple_tag, is_simple_kind, IsOrderly}

-- Each union in the type is of one entity type.
abbrev mutual
  all_alone : Ty → Bool
  all_alone (entity_types ns) = is_alone ns
  all_alone (set_type t) = all_alone t
  all_alone (record_type as_ o) = are_alone as_
  all_alone t = true

  are_alone : Attributes → Bool
  are_alone no_attributes = true
  are_alone (attribute n t r as_) = all_alone t && are_alone as_

-- a name before rising ones isn't among them
no_such : (x : Text) (as_ : Attributes) → is_before_attributes x as_ ≡ true → are_rising as_ ≡ true → attribute_named x as_ ≡ None
no_such x no_attributes h w = refl
no_such x (attribute b t r as_) h w =
    let p = both_hold (has_rising t) (is_before_attributes b as_ && are_rising as_) w in
    let q = both_hold (is_before_attributes b as_) (are_rising as_) p.1 in
    let l = less_is (text_cmp x b) h in
    named_later x b t r as_ (text_less_apart x b l) ∙ no_such x as_ (before_later x b as_ l q.0) q.1

-- such a type, whose attributes rise, is simple
mutual
  simple_rising : (t : Ty) → has_rising t ≡ true → all_alone t ≡ true → is_simple t ≡ true
  simple_rising (entity_types ns) h k = k
  simple_rising (set_type t) h k = simple_rising t h k
  simple_rising (record_type as_ o) h k = all_simple_rising as_ h k
  simple_rising t h k = refl

  all_simple_rising : (as_ : Attributes) → are_rising as_ ≡ true → are_alone as_ ≡ true → are_simple as_ ≡ true
  all_simple_rising no_attributes h k = refl
  all_simple_rising (attribute n t r as_) h k =
      let p = both_hold (has_rising t) (is_before_attributes n as_ && are_rising as_) h in
      let q = both_hold (is_before_attributes n as_) (are_rising as_) p.1 in
      let a = both_hold (all_alone t) (are_alone as_) k in
      hold_both (is_simple t) _ (simple_rising t p.0 a.0) (hold_both (is_none (attribute_named n as_)) _ (ap is_none (no_such n as_ q.0 q.1)) (all_simple_rising as_ q.1 a.1))

-- what is written, resolved
put_alone_by : (a : Text) (t : Ty) (r : Bool) (c : Text) (u : Ty) (q : Bool) (as_ : Attributes) (o : Ordering) → all_alone t ≡ true → are_alone (attribute c u q as_) ≡ true → are_alone (with_attribute a t r as_) ≡ true
    → are_alone (match_ordering o (attribute a t r (attribute c u q as_)) (attribute c u q as_) (attribute c u q (with_attribute a t r as_))) ≡ true
put_alone_by a t r c u q as_ Less h k rest = hold_both (all_alone t) _ h k
put_alone_by a t r c u q as_ Equal h k rest = k
put_alone_by a t r c u q as_ Greater h k rest = hold_both (all_alone u) _ (both_hold (all_alone u) (are_alone as_) k).0 rest

put_alone : (a : Text) (t : Ty) (r : Bool) (as_ : Attributes) → all_alone t ≡ true → are_alone as_ ≡ true → are_alone (with_attribute a t r as_) ≡ true
put_alone a t r no_attributes h k = hold_both (all_alone t) true h refl
put_alone a t r (attribute c u q as_) h k = put_alone_by a t r c u q as_ (text_cmp a c) h k (put_alone a t r as_ h (both_hold (all_alone u) (are_alone as_) k).1)

meant_alone : (f : Name → Ty) → ((n : Name) → all_alone (f n) ≡ true) → (o : Option Meant) → all_alone (type_meant f o) ≡ true
meant_alone f h None = refl
meant_alone f h (Some (meant_common n)) = h n
meant_alone f h (Some (meant_entity n)) = refl

module _ (f : Name → Ty) (h : (n : Name) → all_alone (f n) ≡ true) (d : Declarations) where
  mutual
    pub resolved_alone : (ns : Namespace) (t : TypeExpr) → all_alone (resolved_by f d ns t) ≡ true
    resolved_alone ns bool_expr = refl
    resolved_alone ns long_expr = refl
    resolved_alone ns string_expr = refl
    resolved_alone ns (set_expr t) = resolved_alone ns t
    resolved_alone ns (record_expr fs) = fields_alone ns fs
    resolved_alone ns (reference k n) = meant_alone f h (meant d (record { namespace = ns; kind = k; name = n }))
    resolved_alone ns (extension_expr n) = refl

    pub fields_alone : (ns : Namespace) (fs : FieldExprs) → are_alone (resolved_fields_by f d ns fs) ≡ true
    fields_alone ns no_field_exprs = refl
    fields_alone ns (field_expr a t r fs) = put_alone a (resolved_by f d ns t) r (resolved_fields_by f d ns fs) (resolved_alone ns t) (fields_alone ns fs)

defined_alone : (f : Name → Ty) → ((n : Name) → all_alone (f n) ≡ true) → (d : Declarations) (o : Option CommonDeclaration) → all_alone (defined_by f d o) ≡ true
defined_alone f h d None = refl
defined_alone f h d (Some c) = resolved_alone f h d c.namespace c.definition

common_alone : (k : ℕ) (d : Declarations) (n : Name) → all_alone (common_within k d n) ≡ true
common_alone zero d n = refl
common_alone (suc k) d n = defined_alone (common_within k d) (common_alone k d) d (find (λ (x : CommonDeclaration). name_eq n (common_name x)) d.commons)

resolved_simple : (d : Declarations) (ns : Namespace) (t : TypeExpr) → is_simple (resolved d ns t) ≡ true
resolved_simple d ns t = simple_rising (resolved d ns t) (resolved_rises d ns t) (resolved_alone (common_of d) (common_alone (length d.commons) d) d ns t)

fields_simple : (d : Declarations) (ns : Namespace) (fs : FieldExprs) → are_simple (resolved_fields_by (common_of d) d ns fs) ≡ true
fields_simple d ns fs = resolved_simple d ns (record_expr fs)

tag_simple : (d : Declarations) (ns : Namespace) (t : Option TypeExpr) → is_simple_tag (option_map (resolved d ns) t) ≡ true
tag_simple d ns None = refl
tag_simple d ns (Some t) = resolved_simple d ns t

kind_simple : (d : Declarations) (ns : Namespace) (k : KindExpr) → is_simple_kind (resolved_kind d ns k) ≡ true
kind_simple d ns (standard_expr fs t) = hold_both (are_simple (resolved_fields_by (common_of d) d ns fs)) _ (fields_simple d ns fs) (tag_simple d ns t)
kind_simple d ns (enumerated_expr ids) = refl
kind_simple d ns external_expr = refl

of_record_simple : (t : Ty) → is_simple t ≡ true → are_simple (attributes_of_record t) ≡ true
of_record_simple (record_type as_ o) h = h
of_record_simple t h = refl

-- what is found is one of those declared
found_here : (b : Bool) (u t : EntityType) (us : List EntityType) (rest : Option EntityType) → (rest ≡ Some t → Contains us t) → (if b then Some u else rest) ≡ Some t → Contains (u ∷ us) t
found_here true u t us rest f e = (let q : u ≡ t = cc in subst (Contains (u ∷ us)) q (contains_head u us))
found_here false u t us rest f e = contains_tail u us t (f e)

found_type : (n : Name) (ts : List EntityType) (t : EntityType) → find (λ (x : EntityType). name_eq n x.name) ts ≡ Some t → Contains ts t
found_type n [] t e = cc
found_type n (u ∷ us) t e = found_here (name_eq n u.name) u t us (find (λ (x : EntityType). name_eq n x.name) us) (found_type n us t) e

pub schemas_are_orderly : (x : List Name) (d : Declarations) → IsWellFormed x d → IsOrderly (schema_of d)
schemas_are_orderly x d w =
    record {
      types = λ n t e. (
          let k = map_from (resolved_entity d) d.entities t (found_type n (schema_of d).types t e) in
          subst (λ (y : EntityType). is_simple_kind y.kind ≡ true) k.2 (kind_simple d k.0.namespace k.0.kind));
      contexts = λ a h. (
          let k = map_from (resolved_action d) d.actions a h in
          subst (λ (y : Action). are_simple y.context ≡ true) k.2 (of_record_simple (resolved d k.0.namespace k.0.context) (resolved_simple d k.0.namespace k.0.context)));
      apart = λ u e. types_apart x d w u (subst (λ l. Contains l u) (same_actions d) ((declares_action-Decides (schema_of d) u).0 e));
      above = λ m n h. ancestors_named d m n h;
      listed = λ a h n k. ⊎_elim (principals_named d a h n) (resources_named d a h n) k;
    }
