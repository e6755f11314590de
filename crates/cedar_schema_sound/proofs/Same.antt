-- What is kept of a schema declares the same attributes.
use Rattle.std.proofs.Common.{◌≡◌, ◌||◌, List, [], ◌∷◌, false, Option, Some, None, option_map, refl, sym, ap, ◌∙◌}
use Rattle.std.specs.Prelude.{is_some, option_and_then}
use Rattle.std.specs.List.{list_any}
use Rattle.cedar_expr_model.specs.Name.{Text, Name}
use Rattle.cedar_expr_model.specs.Lists.{all_given}
use Rattle.cedar_schema_model.specs.Types.{Ty, never, bool_type, long_type, string_type, any_entity, entity_types, any_set, set_type, record_type, extension_type, is_open, is_closed, Attributes, attribute_named}
use Rattle.cedar_schema_model.specs.Schema.{EntityKind, standard, enumerated, external, EntityType, Schema, type_named}
use Rattle.cedar_schema_model.specs.Conforming.{of_kind, attributes_at}
use Rattle.cedar_schema_model.specs.Lookup.{declared_of, declared_by_all, lookup_attribute, may_have_attribute}
use Rattle.cedar_schema_model.specs.Kept.{KeptType, Kept, kept_type}
use Rattle.cedar_schema_model.specs.KeptOf.{IsSameKind, IsKeptOf}
use Rattle.cedar_schema_model.specs.KeptLaws.{TypesAreDeclared, TypesAreFound}
use Rattle.cedar_schema_sound.specs.Known.{attributes_kept}
use Rattle.cedar_schema_sound.specs.Laws.{AttributesAreKept, MayHaveIsKept}
use Rattle.cedar_schema_sound.proofs.Kept.{kept_is_found}

abbrev of_type : EntityType → Attributes
of_type e = attributes_at (of_kind e.kind)

abbrev of_kept : KeptType → Attributes
of_kept t = attributes_at (of_kind t.kind)

same_kind : (j i : EntityKind) → IsSameKind j i → attributes_at (of_kind j) ≡ attributes_at (of_kind i)
same_kind (standard as_ t) i h = ap (λ y. attributes_at (of_kind y)) (sym h)
same_kind (enumerated ids) i h = ap (λ y. attributes_at (of_kind y)) (sym h.1)
same_kind external i h = ap (λ y. attributes_at (of_kind y)) (sym h)

declared_by : (a : Text) (o : Option EntityType) → option_and_then (λ (e : EntityType). attribute_named a (of_type e)) o ≡ option_and_then (attribute_named a) (option_map of_type o)
declared_by a None = refl
declared_by a (Some e) = refl

none_there : (o : Option EntityType) → false ≡ is_some o → o ≡ None
none_there None h = refl
none_there (Some e) h = cc

module _ (declared : TypesAreDeclared) (found : TypesAreFound) (s : Schema) (k : Kept) (h : IsKeptOf s k) where
  same_attributes : (n : Name) (o : Option KeptType) → kept_type k n ≡ o → option_map of_kept o ≡ option_map of_type (type_named s n)
  same_attributes n None e = ap (option_map of_type) (sym (none_there (type_named s n) (ap is_some (sym e) ∙ declared s k h n)))
  same_attributes n (Some t) e = let r = found s k h n t e in ap Some (same_kind t.kind r.0.kind r.2.kind) ∙ ap (option_map of_type) (sym r.1)

  pub same_declared : (a : Text) (n : Name) → declared_of (attributes_kept k) a n ≡ declared_of s a n
  same_declared a n =
      declared_by a (type_named (attributes_kept k) n)
      ∙ ap (option_and_then (attribute_named a)) (sym (kept_is_found k n) ∙ same_attributes n (kept_type k n) refl)
      ∙ sym (declared_by a (type_named s n))

  same_given : (a : Text) (ns : List Name) → all_given (declared_of (attributes_kept k) a) ns ≡ all_given (declared_of s a) ns
  same_given a [] = refl
  same_given a (n ∷ ns) = λ i. option_and_then (λ d. option_map (λ ds. d ∷ ds) (same_given a ns i)) (same_declared a n i)

  same_lookup : (t : Ty) (a : Text) → lookup_attribute (attributes_kept k) t a ≡ lookup_attribute s t a
  same_lookup never a = refl
  same_lookup (bool_type b) a = refl
  same_lookup long_type a = refl
  same_lookup string_type a = refl
  same_lookup any_entity a = refl
  same_lookup (entity_types ns) a = ap (option_and_then declared_by_all) (same_given a ns)
  same_lookup any_set a = refl
  same_lookup (set_type t) a = refl
  same_lookup (record_type as_ o) a = refl
  same_lookup (extension_type n) a = refl

  same_any : (a : Text) (ns : List Name) → list_any (λ n. is_some (declared_of (attributes_kept k) a n)) ns ≡ list_any (λ n. is_some (declared_of s a n)) ns
  same_any a [] = refl
  same_any a (n ∷ ns) = λ i. is_some (same_declared a n i) || same_any a ns i

  same_may_have : (t : Ty) (a : Text) → may_have_attribute (attributes_kept k) t a ≡ may_have_attribute s t a
  same_may_have never a = refl
  same_may_have (bool_type b) a = refl
  same_may_have long_type a = refl
  same_may_have string_type a = refl
  same_may_have any_entity a = refl
  same_may_have (entity_types ns) a = same_any a ns
  same_may_have any_set a = refl
  same_may_have (set_type t) a = refl
  same_may_have (record_type as_ is_open) a = refl
  same_may_have (record_type as_ is_closed) a = refl
  same_may_have (extension_type n) a = refl

pub may_have_same : TypesAreDeclared → TypesAreFound → MayHaveIsKept
may_have_same declared found s k h = same_may_have declared found s k h

pub attributes_same : TypesAreDeclared → TypesAreFound → AttributesAreKept
attributes_same declared found s k h = same_lookup declared found s k h
