-- What is typed is the expression itself.
use Rattle.std.proofs.Common.{◌≡◌, Option, Some, None, refl, ap, subst}
use Rattle.std.specs.Prelude.{option_and_then}
use Rattle.cedar_expr_model.specs.Tree.{Tree, lit, var, slot, unknown, choice, both, either, unary, binary, call, get_attr, has_attr, has_path, like, is_type, set_literal, record_literal, Trees, no_trees, tree, TreeFields, no_tree_fields, tree_field}
use Rattle.cedar_schema_model.specs.Types.{any_bool, only_true, only_false, Ty, never, bool_type, long_type, string_type, any_entity, entity_types, any_set, set_type, record_type, extension_type}
use Rattle.cedar_typechecker_model.specs.Facts.{Facts, union}
use Rattle.cedar_typechecker_model.specs.Rules.{Setting}
use Rattle.cedar_typechecker_model.specs.Typing.{Judgement}
use Rattle.cedar_typechecker_model.specs.Typed.{MarkRow, Typed, noted, on_step, and_step_at, and_step, and_typed, or_step_at, or_step, or_typed, choice_step_at, choice_step, on_choice, typed, typed_row, typed_fields, Row, FieldRow}
use Rattle.cedar_typechecker_model.proofs.Held.{Holds, then_holds, map_holds}

noted_holds : (t u : Tree) (row : MarkRow) (j : Option Judgement) → t ≡ u → Holds (λ (x : Typed). x.at ≡ u) (noted t row j)
noted_holds t u row None h = tt
noted_holds t u row (Some j) h = h

abbrev At : Tree → Typed → Type 0
At t x = x.at ≡ t

module _ (known : Facts) (a b : Tree) (right : Facts → Option Typed) (is : (k : Facts) → Holds (At b) (right k)) where
  and_at : (x : Typed) → At a x → (t : Ty) → Holds (At (both a b)) (on_step (λ x k. option_and_then (and_typed x) (right k)) (and_step_at known b x t))
  and_at x h (bool_type only_false) = ap (λ u. both u b) h
  and_at x h (bool_type only_true) = then_holds (At b) (At (both a b)) (and_typed x) (right (union known x.facts)) (is (union known x.facts)) (λ y q. noted_holds _ (both a b) _ _ (λ i. both (h i) (q i)))
  and_at x h (bool_type any_bool) = then_holds (At b) (At (both a b)) (and_typed x) (right (union known x.facts)) (is (union known x.facts)) (λ y q. noted_holds _ (both a b) _ _ (λ i. both (h i) (q i)))
  and_at x h never = tt
  and_at x h long_type = tt
  and_at x h string_type = tt
  and_at x h any_entity = tt
  and_at x h any_set = tt
  and_at x h (entity_types ns) = tt
  and_at x h (set_type t) = tt
  and_at x h (record_type as_ o) = tt
  and_at x h (extension_type n) = tt

  and_holds : (x : Option Typed) → Holds (At a) x → Holds (At (both a b)) (on_step (λ x k. option_and_then (and_typed x) (right k)) (and_step known b x))
  and_holds None h = tt
  and_holds (Some x) h = and_at x h x.type

module _ (a b : Tree) (right : Option Typed) (is : Holds (At b) right) where
  or_at : (x : Typed) → At a x → (t : Ty) → Holds (At (either a b)) (on_step (λ x k. option_and_then (or_typed x) right) (or_step_at b x t))
  or_at x h (bool_type only_true) = ap (λ u. either u b) h
  or_at x h (bool_type only_false) = then_holds (At b) (At (either a b)) (or_typed x) right is (λ y q. noted_holds _ (either a b) _ _ (λ i. either (h i) (q i)))
  or_at x h (bool_type any_bool) = then_holds (At b) (At (either a b)) (or_typed x) right is (λ y q. noted_holds _ (either a b) _ _ (λ i. either (h i) (q i)))
  or_at x h never = tt
  or_at x h long_type = tt
  or_at x h string_type = tt
  or_at x h any_entity = tt
  or_at x h any_set = tt
  or_at x h (entity_types ns) = tt
  or_at x h (set_type t) = tt
  or_at x h (record_type as_ o) = tt
  or_at x h (extension_type n) = tt

  or_holds : (x : Option Typed) → Holds (At a) x → Holds (At (either a b)) (on_step (λ x k. option_and_then (or_typed x) right) (or_step b x))
  or_holds None h = tt
  or_holds (Some x) h = or_at x h x.type

module _ (s : Setting) (known : Facts) (t a b : Tree) (first : Facts → Option Typed) (is : (k : Facts) → Holds (At a) (first k)) (second : Option Typed) (also : Holds (At b) second) where
  choice_at : (x : Typed) → At t x → (u : Ty) → Holds (At (choice t a b)) (on_choice first second s a b (choice_step_at known x u))
  choice_at x h (bool_type only_true) = then_holds (At a) (At (choice t a b)) _ (first (union known x.facts)) (is (union known x.facts)) (λ y q i. choice (h i) (q i) b)
  choice_at x h (bool_type only_false) = then_holds (At b) (At (choice t a b)) _ second also (λ z q i. choice (h i) a (q i))
  choice_at x h (bool_type any_bool) =
      then_holds (At a) (At (choice t a b)) _ (first (union known x.facts)) (is (union known x.facts)) (λ y q. then_holds (At b) (At (choice t a b)) _ second also (λ z r. noted_holds _ (choice t a b) _ _ (λ i. choice (h i) (q i) (r i))))
  choice_at x h never = tt
  choice_at x h long_type = tt
  choice_at x h string_type = tt
  choice_at x h any_entity = tt
  choice_at x h any_set = tt
  choice_at x h (entity_types ns) = tt
  choice_at x h (set_type u) = tt
  choice_at x h (record_type as_ o) = tt
  choice_at x h (extension_type n) = tt

  choice_holds : (x : Option Typed) → Holds (At t) x → Holds (At (choice t a b)) (on_choice first second s a b (choice_step known x))
  choice_holds None h = tt
  choice_holds (Some x) h = choice_at x h x.type

abbrev RowAt : Trees → Row → Type 0
RowAt ts r = r.at ≡ ts

abbrev FieldsAt : TreeFields → FieldRow → Type 0
FieldsAt fs r = r.at ≡ fs

mutual
  at_holds : (s : Setting) (known : Facts) (t : Tree) → Holds (At t) (typed s known t)
  at_holds s known (lit p) = noted_holds _ (lit p) _ _ refl
  at_holds s known (var x) = refl
  at_holds s known (slot x) = refl
  at_holds s known (unknown n a) = tt
  at_holds s known (choice t a b) = choice_holds s known t a b (λ k. typed s k a) (λ k. at_holds s k a) (typed s known b) (at_holds s known b) (typed s known t) (at_holds s known t)
  at_holds s known (both a b) = and_holds known a b (λ k. typed s k b) (λ k. at_holds s k b) (typed s known a) (at_holds s known a)
  at_holds s known (either a b) = or_holds a b (typed s known b) (at_holds s known b) (typed s known a) (at_holds s known a)
  at_holds s known (unary o a) = then_holds (At a) (At (unary o a)) _ (typed s known a) (at_holds s known a) (λ x h. noted_holds _ (unary o a) _ _ (ap (unary o) h))
  at_holds s known (binary o a b) = then_holds (At a) (At (binary o a b)) _ (typed s known a) (at_holds s known a) (λ x h. then_holds (At b) (At (binary o a b)) _ (typed s known b) (at_holds s known b) (λ y q. noted_holds _ (binary o a b) _ _ (λ i. binary o (h i) (q i))))
  at_holds s known (call n ts) = then_holds (RowAt ts) (At (call n ts)) _ (typed_row s known ts) (row_holds s known ts) (λ r h. noted_holds _ (call n ts) _ _ (ap (call n) h))
  at_holds s known (get_attr e a) = then_holds (At e) (At (get_attr e a)) _ (typed s known e) (at_holds s known e) (λ x h. noted_holds _ (get_attr e a) _ _ (ap (λ u. get_attr u a) h))
  at_holds s known (has_attr e a) = then_holds (At e) (At (has_attr e a)) _ (typed s known e) (at_holds s known e) (λ x h. noted_holds _ (has_attr e a) _ _ (ap (λ u. has_attr u a) h))
  at_holds s known (has_path e a bs) = then_holds (At e) (At (has_path e a bs)) _ (typed s known e) (at_holds s known e) (λ x h. noted_holds _ (has_path e a bs) _ _ (ap (λ u. has_path u a bs) h))
  at_holds s known (like e p) = then_holds (At e) (At (like e p)) _ (typed s known e) (at_holds s known e) (λ x h. noted_holds _ (like e p) _ _ (ap (λ u. like u p) h))
  at_holds s known (is_type e n) = then_holds (At e) (At (is_type e n)) _ (typed s known e) (at_holds s known e) (λ x h. noted_holds _ (is_type e n) _ _ (ap (λ u. is_type u n) h))
  at_holds s known (set_literal ts) = then_holds (RowAt ts) (At (set_literal ts)) _ (typed_row s known ts) (row_holds s known ts) (λ r h. noted_holds _ (set_literal ts) _ _ (ap set_literal h))
  at_holds s known (record_literal fs) = then_holds (FieldsAt fs) (At (record_literal fs)) _ (typed_fields s known fs) (fields_hold s known fs) (λ r h. noted_holds _ (record_literal fs) _ _ (ap record_literal h))

  row_holds : (s : Setting) (known : Facts) (ts : Trees) → Holds (RowAt ts) (typed_row s known ts)
  row_holds s known no_trees = refl
  row_holds s known (tree e es) = then_holds (At e) (RowAt (tree e es)) _ (typed s known e) (at_holds s known e) (λ x h. map_holds (RowAt es) (RowAt (tree e es)) _ (typed_row s known es) (row_holds s known es) (λ r q i. tree (h i) (q i)))

  fields_hold : (s : Setting) (known : Facts) (fs : TreeFields) → Holds (FieldsAt fs) (typed_fields s known fs)
  fields_hold s known no_tree_fields = refl
  fields_hold s known (tree_field a e fs) = then_holds (At e) (FieldsAt (tree_field a e fs)) _ (typed s known e) (at_holds s known e) (λ x h. map_holds (FieldsAt fs) (FieldsAt (tree_field a e fs)) _ (typed_fields s known fs) (fields_hold s known fs) (λ r q i. tree_field a (h i) (q i)))

pub same_tree : (s : Setting) (known : Facts) (t : Tree) (x : Typed) → typed s known t ≡ Some x → x.at ≡ t
same_tree s known t x e = subst (Holds (At t)) e (at_holds s known t)
