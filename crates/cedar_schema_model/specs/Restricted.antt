-- Which restricted expressions are of a type.
-- Rule: values of a type; restricted expressions (docs/RULES.md).
use Rattle.std.specs.Prelude.{◌≡◌, ◌&&◌, ◌||◌, List, find, Bool, true, false, not, Option, Some, None, if◌then◌else◌}
use Rattle.std.specs.Option.{option_map_or}
use Rattle.std.specs.Str.{bytes_eq}
use Rattle.cedar_expr_model.specs.Name.{Text, Name, name_eq}
use Rattle.cedar_expr_model.specs.Table.{Signature}
use Rattle.cedar_expr_model.specs.Tree.{CoreType, extension_core, Tree, lit, call, set_literal, record_literal, Trees, no_trees, tree, TreeFields, no_tree_fields, tree_field}
use Rattle.cedar_schema_model.specs.Types.{Openness, is_open, is_closed, Ty, any_set, set_type, record_type, extension_type, Attributes, no_attributes, attribute, Declared, attribute_named}
use Rattle.cedar_schema_model.specs.HasType.{LiteralHasType, literal_has_type, FieldFits}

-- the first of these functions that has the name
abbrev pub signature_among : List Signature → Name → Option Signature
signature_among ss f = find (λ s. name_eq f s.name) ss

-- a field of this name is there
abbrev pub has_tree_field : Text → TreeFields → Bool
has_tree_field a no_tree_fields = false
has_tree_field a (tree_field b t fs) = bytes_eq a b || has_tree_field a fs

-- a field for each required attribute is there
abbrev pub has_required_fields : Attributes → TreeFields → Bool
has_required_fields no_attributes fs = true
has_required_fields (attribute n t r as_) fs = (not r || has_tree_field n fs) && has_required_fields as_ fs

-- Such a function is there, and gives values of the extension type.
abbrev pub Gives : List Signature → Name → Name → Type 0
Gives ss f n = (s : Signature) × (signature_among ss f ≡ Some s) × (s.result ≡ Some (extension_core n))

-- The expression is of the type: a literal as a value is, a call where its function gives the extension type, a set if each of
-- its expressions is of the element type, a record as a value is, by its fields. Nothing else is of any type.
abbrev mutual
  pub RestrictedHasType : List Signature → Tree → Ty → Type 0
  RestrictedHasType ss (lit p) t = LiteralHasType p t
  RestrictedHasType ss (call f ts) (extension_type n) = Gives ss f n
  RestrictedHasType ss (set_literal ts) any_set = Unit {0}
  RestrictedHasType ss (set_literal ts) (set_type t) = RestrictedHaveType ss ts t
  RestrictedHasType ss (record_literal fs) (record_type as_ o) = (has_required_fields as_ fs ≡ true) × RestrictedFieldsFit ss as_ o fs
  RestrictedHasType ss e t = ⊥

  pub RestrictedHaveType : List Signature → Trees → Ty → Type 0
  RestrictedHaveType ss no_trees t = Unit {0}
  RestrictedHaveType ss (tree e es) t = RestrictedHasType ss e t × RestrictedHaveType ss es t

  pub RestrictedFieldsFit : List Signature → Attributes → Openness → TreeFields → Type 0
  RestrictedFieldsFit ss as_ o no_tree_fields = Unit {0}
  RestrictedFieldsFit ss as_ o (tree_field a e fs) = FieldFits o (RestrictedHasType ss e) (attribute_named a as_) × RestrictedFieldsFit ss as_ o fs

-- What comes of asking an expression for a type: it is of the type or not, or the function of this name isn't there.
pub data Asked : Type 0 where
  of_type not_of_type : Asked
  no_function : Name → Asked

abbrev pub asked_truth : Bool → Asked
asked_truth b = if b then of_type else not_of_type

-- the next is asked where the first is of its type
abbrev pub asked_next : Asked → Asked → Asked
asked_next of_type next = next
asked_next first next = first

-- a result of the extension type
abbrev pub is_result : Name → Option CoreType → Bool
is_result n (Some (extension_core m)) = name_eq m n
is_result n r = false

abbrev pub call_asked : List Signature → Name → Name → Asked
call_asked ss f n = option_map_or (λ s. asked_truth (is_result n s.result)) (signature_among ss f) (no_function f)

abbrev pub field_asked : Openness → (Ty → Asked) → Option Declared → Asked
field_asked is_open asks None = of_type
field_asked is_closed asks None = not_of_type
field_asked o asks (Some d) = asks d.type

-- The test: expressions of a set and fields in order, up to the first that isn't of its type. A function is looked up where an
-- extension type is asked for.
abbrev mutual
  pub asked_for : List Signature → Tree → Ty → Asked
  asked_for ss (lit p) t = asked_truth (literal_has_type p t)
  asked_for ss (call f ts) (extension_type n) = call_asked ss f n
  asked_for ss (set_literal ts) any_set = of_type
  asked_for ss (set_literal ts) (set_type t) = all_asked_for ss ts t
  asked_for ss (record_literal fs) (record_type as_ o) = asked_next (asked_truth (has_required_fields as_ fs)) (fields_asked_for ss as_ o fs)
  asked_for ss e t = not_of_type

  pub all_asked_for : List Signature → Trees → Ty → Asked
  all_asked_for ss no_trees t = of_type
  all_asked_for ss (tree e es) t = asked_next (asked_for ss e t) (all_asked_for ss es t)

  pub fields_asked_for : List Signature → Attributes → Openness → TreeFields → Asked
  fields_asked_for ss as_ o no_tree_fields = of_type
  fields_asked_for ss as_ o (tree_field a e fs) = asked_next (field_asked o (asked_for ss e) (attribute_named a as_)) (fields_asked_for ss as_ o fs)
