-- What the test of a restricted expression answers.
use Rattle.std.proofs.Common.{◌≡◌, Bool, true, false, List, Option, Some, None, refl, sym, ap, ◌∙◌, inl, inr, ⊎_elim}
use Rattle.std.specs.Prelude.{◌⊎◌, ◌↔◌}
use Rattle.std.specs.Option.{option_map_or}
use Rattle.cedar_expr_model.specs.Name.{Name}
use Rattle.cedar_expr_model.specs.Value.{prim}
use Rattle.cedar_expr_model.specs.Table.{Signature}
use Rattle.cedar_expr_model.specs.Tree.{CoreType, extension_core, Tree, lit, call, set_literal, record_literal, Trees, no_trees, tree, TreeFields, no_tree_fields, tree_field}
use Rattle.cedar_expr_model.proofs.Equality.{name_eq-Decides}
use Rattle.cedar_schema_model.specs.Types.{Openness, is_open, is_closed, Ty, any_set, set_type, record_type, extension_type, Attributes, Declared, attribute_named}
use Rattle.cedar_schema_model.specs.HasType.{FieldFits}
use Rattle.cedar_schema_model.proofs.Types.Lookups.{no_lie}
use Rattle.cedar_schema_model.proofs.Types.Values.{value_decided}
use Rattle.cedar_schema_model.specs.Restricted.{signature_among, has_required_fields, Gives, RestrictedHasType, RestrictedHaveType, RestrictedFieldsFit, Asked, of_type, not_of_type, no_function, asked_truth, asked_next, is_result, call_asked, field_asked, asked_for, all_asked_for, fields_asked_for}

-- what an answer is
abbrev is_of : Asked → Bool
is_of of_type = true
is_of a = false

abbrev lacks : Asked → Bool
lacks (no_function f) = true
lacks a = false

truth_given : (b : Bool) → asked_truth b ≡ of_type → b ≡ true
truth_given true h = refl
truth_given false h = no_lie (ap is_of h)

truth_lacks_none : {P : Type 0} (b : Bool) (f : Name) → asked_truth b ≡ no_function f → P
truth_lacks_none true f h = no_lie (ap lacks h)
truth_lacks_none false f h = no_lie (ap lacks h)

next_parts : (a b : Asked) → asked_next a b ≡ of_type → (a ≡ of_type) × (b ≡ of_type)
next_parts of_type b h = (refl, h)
next_parts not_of_type b h = no_lie (ap is_of h)
next_parts (no_function f) b h = no_lie (ap is_of h)

next_made : (a b : Asked) → a ≡ of_type → b ≡ of_type → asked_next a b ≡ of_type
next_made a b h k = ap (λ x. asked_next x b) h ∙ k

next_lacks : (a b : Asked) (f : Name) → asked_next a b ≡ no_function f → (a ≡ no_function f) ⊎ (b ≡ no_function f)
next_lacks of_type b f h = inr h
next_lacks not_of_type b f h = inl h
next_lacks (no_function g) b f h = inl h

-- a call
result_given : (n : Name) (r : Option CoreType) → is_result n r ≡ true → r ≡ Some (extension_core n)
result_given n (Some (extension_core m)) h = ap (λ k. Some (extension_core k)) ((name_eq-Decides m n).0 h)
result_given n r h = no_lie h

pub result_made : (n : Name) (r : Option CoreType) → r ≡ Some (extension_core n) → is_result n r ≡ true
result_made n r e = ap (is_result n) e ∙ (name_eq-Decides n n).1 refl

call_given : (n f : Name) (o : Option Signature) → option_map_or (λ s. asked_truth (is_result n s.result)) o (no_function f) ≡ of_type → (s : Signature) × (o ≡ Some s) × (s.result ≡ Some (extension_core n))
call_given n f None h = no_lie (ap is_of h)
call_given n f (Some s) h = (s, refl, result_given n s.result (truth_given (is_result n s.result) h))

call_made : (ss : List Signature) (f n : Name) → Gives ss f n → call_asked ss f n ≡ of_type
call_made ss f n g = ap (λ o. option_map_or (λ s. asked_truth (is_result n s.result)) o (no_function f)) g.1 ∙ ap asked_truth (result_made n (g.0).result g.2)

-- a field
field_given : (o : Openness) (asks : Ty → Asked) (Has : Ty → Type 0) (d : Option Declared) → ((t : Ty) → asks t ≡ of_type → Has t) → field_asked o asks d ≡ of_type → FieldFits o Has d
field_given is_open asks Has None each h = tt
field_given is_closed asks Has None each h = no_lie (ap is_of h)
field_given o asks Has (Some d) each h = each d.type h

field_made : (o : Openness) (asks : Ty → Asked) (Has : Ty → Type 0) (d : Option Declared) → ((t : Ty) → Has t → asks t ≡ of_type) → FieldFits o Has d → field_asked o asks d ≡ of_type
field_made is_open asks Has None each h = refl
field_made is_closed asks Has None each h = absurd h
field_made o asks Has (Some d) each h = each d.type h

-- The test answers `of_type` where the expression is of the type, and only there.
mutual
  given : (ss : List Signature) (e : Tree) (t : Ty) → asked_for ss e t ≡ of_type → RestrictedHasType ss e t
  given ss (lit p) t h = (value_decided (prim p) t).0 (truth_given _ h)
  given ss (call f ts) (extension_type n) h = call_given n f (signature_among ss f) h
  given ss (set_literal ts) any_set h = tt
  given ss (set_literal ts) (set_type t) h = all_given ss ts t h
  given ss (record_literal fs) (record_type as_ o) h =
      let q = next_parts (asked_truth (has_required_fields as_ fs)) (fields_asked_for ss as_ o fs) h in
      (truth_given (has_required_fields as_ fs) q.0, fields_given ss as_ o fs q.1)
  given ss e t h = no_lie (ap is_of h)

  all_given : (ss : List Signature) (es : Trees) (t : Ty) → all_asked_for ss es t ≡ of_type → RestrictedHaveType ss es t
  all_given ss no_trees t h = tt
  all_given ss (tree e es) t h = let q = next_parts (asked_for ss e t) (all_asked_for ss es t) h in (given ss e t q.0, all_given ss es t q.1)

  fields_given : (ss : List Signature) (as_ : Attributes) (o : Openness) (fs : TreeFields) → fields_asked_for ss as_ o fs ≡ of_type → RestrictedFieldsFit ss as_ o fs
  fields_given ss as_ o no_tree_fields h = tt
  fields_given ss as_ o (tree_field a e fs) h =
      let q = next_parts (field_asked o (asked_for ss e) (attribute_named a as_)) (fields_asked_for ss as_ o fs) h in
      (field_given o (asked_for ss e) (RestrictedHasType ss e) (attribute_named a as_) (given ss e) q.0, fields_given ss as_ o fs q.1)

mutual
  answered : (ss : List Signature) (e : Tree) (t : Ty) → RestrictedHasType ss e t → asked_for ss e t ≡ of_type
  answered ss (lit p) t h = ap asked_truth ((value_decided (prim p) t).1 h)
  answered ss (call f ts) (extension_type n) h = call_made ss f n h
  answered ss (set_literal ts) any_set h = refl
  answered ss (set_literal ts) (set_type t) h = all_answered ss ts t h
  answered ss (record_literal fs) (record_type as_ o) h = next_made (asked_truth (has_required_fields as_ fs)) (fields_asked_for ss as_ o fs) (ap asked_truth h.0) (fields_answered ss as_ o fs h.1)
  answered ss e t h = absurd h

  all_answered : (ss : List Signature) (es : Trees) (t : Ty) → RestrictedHaveType ss es t → all_asked_for ss es t ≡ of_type
  all_answered ss no_trees t h = refl
  all_answered ss (tree e es) t h = next_made (asked_for ss e t) (all_asked_for ss es t) (answered ss e t h.0) (all_answered ss es t h.1)

  fields_answered : (ss : List Signature) (as_ : Attributes) (o : Openness) (fs : TreeFields) → RestrictedFieldsFit ss as_ o fs → fields_asked_for ss as_ o fs ≡ of_type
  fields_answered ss as_ o no_tree_fields h = refl
  fields_answered ss as_ o (tree_field a e fs) h =
      next_made (field_asked o (asked_for ss e) (attribute_named a as_)) (fields_asked_for ss as_ o fs)
      (field_made o (asked_for ss e) (RestrictedHasType ss e) (attribute_named a as_) (answered ss e) h.0) (fields_answered ss as_ o fs h.1)

pub asked_decides : (ss : List Signature) (e : Tree) (t : Ty) → (asked_for ss e t ≡ of_type) ↔ RestrictedHasType ss e t
asked_decides ss e t = (given ss e t, answered ss e t)

-- a function that isn't there
call_lacks : (ss : List Signature) (n g f : Name) (o : Option Signature) → signature_among ss g ≡ o → option_map_or (λ s. asked_truth (is_result n s.result)) o (no_function g) ≡ no_function f → signature_among ss f ≡ None
call_lacks ss n g f None is h = ap (signature_among ss) (sym (same h)) ∙ is
  where
    same : no_function g ≡ no_function f → g ≡ f
    same e = cc
call_lacks ss n g f (Some s) is h = truth_lacks_none (is_result n s.result) f h

field_lacks : {P : Type 0} (o : Openness) (asks : Ty → Asked) (d : Option Declared) (f : Name) → ((t : Ty) → asks t ≡ no_function f → P) → field_asked o asks d ≡ no_function f → P
field_lacks is_open asks None f each h = no_lie (ap lacks h)
field_lacks is_closed asks None f each h = no_lie (ap lacks h)
field_lacks o asks (Some d) f each h = each d.type h

mutual
  pub named_lacks : (ss : List Signature) (e : Tree) (t : Ty) (f : Name) → asked_for ss e t ≡ no_function f → signature_among ss f ≡ None
  named_lacks ss (lit p) t f h = truth_lacks_none _ f h
  named_lacks ss (call g ts) (extension_type n) f h = call_lacks ss n g f (signature_among ss g) refl h
  named_lacks ss (set_literal ts) any_set f h = no_lie (ap lacks h)
  named_lacks ss (set_literal ts) (set_type t) f h = all_lack ss ts t f h
  named_lacks ss (record_literal fs) (record_type as_ o) f h =
      ⊎_elim (λ k. truth_lacks_none (has_required_fields as_ fs) f k) (fields_lack ss as_ o fs f) (next_lacks (asked_truth (has_required_fields as_ fs)) (fields_asked_for ss as_ o fs) f h)
  named_lacks ss e t f h = no_lie (ap lacks h)

  all_lack : (ss : List Signature) (es : Trees) (t : Ty) (f : Name) → all_asked_for ss es t ≡ no_function f → signature_among ss f ≡ None
  all_lack ss no_trees t f h = no_lie (ap lacks h)
  all_lack ss (tree e es) t f h = ⊎_elim (named_lacks ss e t f) (all_lack ss es t f) (next_lacks (asked_for ss e t) (all_asked_for ss es t) f h)

  fields_lack : (ss : List Signature) (as_ : Attributes) (o : Openness) (fs : TreeFields) (f : Name) → fields_asked_for ss as_ o fs ≡ no_function f → signature_among ss f ≡ None
  fields_lack ss as_ o no_tree_fields f h = no_lie (ap lacks h)
  fields_lack ss as_ o (tree_field a e fs) f h =
      ⊎_elim (field_lacks o (asked_for ss e) (attribute_named a as_) f (λ t. named_lacks ss e t f)) (fields_lack ss as_ o fs f)
      (next_lacks (field_asked o (asked_for ss e) (attribute_named a as_)) (fields_asked_for ss as_ o fs) f h)
