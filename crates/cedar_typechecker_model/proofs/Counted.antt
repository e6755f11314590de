-- The counts by the types of the parts are those under the facts that are known there.
use Rattle.std.proofs.Common.{◌≡◌, ℕ, List, [], ◌∷◌, ◌++◌, Option, Some, None, refl, sym, ap, ◌∙◌, subst}
use Rattle.std.specs.Prelude.{option_map, option_and_then, max, if◌then◌else◌}
use Rattle.std.specs.Str.{bytes_eq}
use Rattle.cedar_expr_model.specs.Name.{Text}
use Rattle.cedar_expr_model.specs.Tree.{BinaryOp, equal, less, less_or_equal, plus, difference, times, remainder, is_in, contains, contains_all, contains_any, get_tag, has_tag, Tree, lit, var, slot, unknown, choice, both, either, unary, binary, call, get_attr, has_attr, has_path, like, is_type, set_literal, record_literal, Trees, no_trees, tree, TreeFields, no_tree_fields, tree_field}
use Rattle.cedar_schema_model.specs.Types.{any_bool, only_true, only_false, Ty, never, bool_type, long_type, string_type, any_entity, entity_types, any_set, set_type, record_type, extension_type}
use Rattle.cedar_store_model.specs.Looks.{looks_up}
use Rattle.cedar_typechecker_model.specs.Facts.{Facts, union}
use Rattle.cedar_typechecker_model.specs.Rules.{Setting}
use Rattle.cedar_typechecker_model.specs.Typing.{Judgement, judgement}
use Rattle.cedar_typechecker_model.specs.Levels.{Violation, Count, count, joined, further, stepped, is_entity, unless_false, unless_true, after, after_test, target_after_test, entity_steps, fields_before, path_violations, violations, violations_among, violations_in_fields, target, target_in_fields}
use Rattle.cedar_typechecker_model.specs.Typed.{MarkRow, no_marks, marks, two, Typed, marked, noted, on_step, and_step_at, and_step, and_typed, or_step_at, or_step, or_typed, choice_step_at, choice_step, on_choice, typed, typed_row, typed_fields, Row, FieldRow}
use Rattle.cedar_typechecker_model.proofs.Judged.{typed_is}
use Rattle.cedar_typechecker_model.specs.TypedLaws.{judgement_of}
use Rattle.cedar_typechecker_model.specs.Counts.{violations_at, violations_in_row, violations_in_field_row, target_at, target_in_field_row}
use Rattle.cedar_typechecker_model.proofs.Held.{Holds, then_holds, map_holds}

noted_holds : (P : Typed → Type 0) (t : Tree) (row : MarkRow) (j : Option Judgement) → ((k : Judgement) → P (record { type = k.type; facts = k.facts; at = t; below = row })) → Holds P (noted t row j)
noted_holds P t row None h = tt
noted_holds P t row (Some j) h = h j

module _ (n : ℕ) (s : Setting) where
  -- what stands in the marks of a typed expression
  record Counts (known : Facts) (t : Tree) (x : Typed) : Type 0 where
    judged : judgement s known t ≡ Some (judgement_of x)
    here : violations_at n s t (marked x) ≡ violations n s known t
    far : (path : List Text) → target_at n s path t (marked x) ≡ target n s known path t

  -- what stands in the marks of a typed expression, without the judgement, which follows
  record Both (known : Facts) (t : Tree) (x : Typed) : Type 0 where
    here : violations_at n s t (marked x) ≡ violations n s known t
    far : (path : List Text) → target_at n s path t (marked x) ≡ target n s known path t

  with_judgement : (known : Facts) (t : Tree) (o : Option Typed) → option_map judgement_of o ≡ judgement s known t → Holds (Both known t) o → Holds (Counts known t) o
  with_judgement known t None e h = tt
  with_judgement known t (Some x) e h = record { judged = sym e; here = h.here; far = h.far }

  record RowCounts (known : Facts) (ts : Trees) (r : Row) : Type 0 where
    here : violations_in_row n s ts r.below ≡ violations_among n s known ts

  record FieldCounts (known : Facts) (fs : TreeFields) (r : FieldRow) : Type 0 where
    here : violations_in_field_row n s fs r.below ≡ violations_in_fields n s known fs
    far : (path : List Text) → target_in_field_row n s path fs r.below ≡ target_in_fields n s known path fs

  abbrev made : Ty → Facts → Tree → MarkRow → Typed
  made t f at row = record { type = t; facts = f; at = at; below = row }

  module _ (known : Facts) (a b : Tree) (right : Facts → Option Typed) (is : (k : Facts) → Holds (Counts k b) (right k)) where
    abbrev after_and : Option Judgement → List Violation
    after_and o = violations n s known a ++ after unless_false o (λ f. violations n s (union known f) b)

    and_at : (t : Ty) (f : Facts) (at : Tree) (row : MarkRow) → Counts known a (made t f at row) → Holds (Both known (both a b)) (on_step (λ x k. option_and_then (and_typed x) (right k)) (and_step_at known b (made t f at row) t))
    and_at (bool_type only_false) f at row h = record { here = ap (λ v. v ++ []) h.here ∙ ap after_and (sym h.judged); far = λ path. refl }
    and_at (bool_type only_true) f at row h = then_holds (Counts (union known f) b) (Both known (both a b)) _ (right (union known f)) (is (union known f)) (λ y k. noted_holds (Both known (both a b)) _ _ _ (λ j. record { here = (λ i. h.here i ++ k.here i) ∙ ap after_and (sym h.judged); far = λ path. refl }))
    and_at (bool_type any_bool) f at row h = then_holds (Counts (union known f) b) (Both known (both a b)) _ (right (union known f)) (is (union known f)) (λ y k. noted_holds (Both known (both a b)) _ _ _ (λ j. record { here = (λ i. h.here i ++ k.here i) ∙ ap after_and (sym h.judged); far = λ path. refl }))
    and_at never f at row h = tt
    and_at long_type f at row h = tt
    and_at string_type f at row h = tt
    and_at any_entity f at row h = tt
    and_at any_set f at row h = tt
    and_at (entity_types ns) f at row h = tt
    and_at (set_type t) f at row h = tt
    and_at (record_type as_ o) f at row h = tt
    and_at (extension_type m) f at row h = tt

    and_counts : (x : Option Typed) → Holds (Counts known a) x → Holds (Both known (both a b)) (on_step (λ x k. option_and_then (and_typed x) (right k)) (and_step known b x))
    and_counts None h = tt
    and_counts (Some x) h = and_at x.type x.facts x.at x.below h

  module _ (known : Facts) (a b : Tree) (right : Option Typed) (is : Holds (Counts known b) right) where
    abbrev after_or : Option Judgement → List Violation
    after_or o = violations n s known a ++ after unless_true o (λ f. violations n s known b)

    or_at : (t : Ty) (f : Facts) (at : Tree) (row : MarkRow) → Counts known a (made t f at row) → Holds (Both known (either a b)) (on_step (λ x k. option_and_then (or_typed x) right) (or_step_at b (made t f at row) t))
    or_at (bool_type only_true) f at row h = record { here = ap (λ v. v ++ []) h.here ∙ ap after_or (sym h.judged); far = λ path. refl }
    or_at (bool_type only_false) f at row h = then_holds (Counts known b) (Both known (either a b)) _ right is (λ y k. noted_holds (Both known (either a b)) _ _ _ (λ j. record { here = (λ i. h.here i ++ k.here i) ∙ ap after_or (sym h.judged); far = λ path. refl }))
    or_at (bool_type any_bool) f at row h = then_holds (Counts known b) (Both known (either a b)) _ right is (λ y k. noted_holds (Both known (either a b)) _ _ _ (λ j. record { here = (λ i. h.here i ++ k.here i) ∙ ap after_or (sym h.judged); far = λ path. refl }))
    or_at never f at row h = tt
    or_at long_type f at row h = tt
    or_at string_type f at row h = tt
    or_at any_entity f at row h = tt
    or_at any_set f at row h = tt
    or_at (entity_types ns) f at row h = tt
    or_at (set_type t) f at row h = tt
    or_at (record_type as_ o) f at row h = tt
    or_at (extension_type m) f at row h = tt

    or_counts : (x : Option Typed) → Holds (Counts known a) x → Holds (Both known (either a b)) (on_step (λ x k. option_and_then (or_typed x) right) (or_step b x))
    or_counts None h = tt
    or_counts (Some x) h = or_at x.type x.facts x.at x.below h

  module _ (known : Facts) (t a b : Tree) (first : Facts → Option Typed) (is : (k : Facts) → Holds (Counts k a) (first k)) (second : Option Typed) (also : Holds (Counts known b) second) where
    abbrev after_choice : Option Judgement → List Violation
    after_choice o = violations n s known t ++ after_test o (λ f. violations n s (union known f) a) (violations n s known b)

    abbrev target_after : List Text → Option Judgement → Count
    target_after path o = joined (violations n s known t) (target_after_test o (λ f. target n s (union known f) path a) (target n s known path b))

    choice_at : (u : Ty) (f : Facts) (at : Tree) (row : MarkRow) → Counts known t (made u f at row) → Holds (Both known (choice t a b)) (on_choice first second s a b (choice_step_at known (made u f at row) u))
    choice_at (bool_type only_true) f at row h = then_holds (Counts (union known f) a) (Both known (choice t a b)) _ (first (union known f)) (is (union known f)) (λ y k. record { here = (λ i. h.here i ++ k.here i) ∙ ap after_choice (sym h.judged); far = λ path. (λ i. joined (h.here i) (k.far path i)) ∙ ap (target_after path) (sym h.judged) })
    choice_at (bool_type only_false) f at row h = then_holds (Counts known b) (Both known (choice t a b)) _ second also (λ z k. record { here = (λ i. h.here i ++ k.here i) ∙ ap after_choice (sym h.judged); far = λ path. (λ i. joined (h.here i) (k.far path i)) ∙ ap (target_after path) (sym h.judged) })
    choice_at (bool_type any_bool) f at row h =
        then_holds (Counts (union known f) a) (Both known (choice t a b)) _ (first (union known f)) (is (union known f)) (λ y k. then_holds (Counts known b) (Both known (choice t a b)) _ second also (λ z q. noted_holds (Both known (choice t a b)) _ _ _ (λ j. record {
          here = (λ i. h.here i ++ (k.here i ++ q.here i)) ∙ ap after_choice (sym h.judged);
          far = λ path. (λ i. joined (h.here i) (count (max (k.far path i).steps (q.far path i).steps) ((k.far path i).found ++ (q.far path i).found))) ∙ ap (target_after path) (sym h.judged);
        })))
    choice_at never f at row h = tt
    choice_at long_type f at row h = tt
    choice_at string_type f at row h = tt
    choice_at any_entity f at row h = tt
    choice_at any_set f at row h = tt
    choice_at (entity_types ns) f at row h = tt
    choice_at (set_type u) f at row h = tt
    choice_at (record_type as_ o) f at row h = tt
    choice_at (extension_type m) f at row h = tt

    choice_counts : (x : Option Typed) → Holds (Counts known t) x → Holds (Both known (choice t a b)) (on_choice first second s a b (choice_step known x))
    choice_counts None h = tt
    choice_counts (Some x) h = choice_at x.type x.facts x.at x.below h

  -- a step on an expression, by its type
  abbrev step_by : Facts → Tree → Tree → Option Judgement → List Violation
  step_by known whole e o = if is_entity (option_map (λ j. j.type) o) then stepped n whole (further 1 (target n s known [] e)) else violations n s known e

  abbrev far_by : Facts → List Text → Text → Tree → Option Judgement → Count
  far_by known path a e o = if is_entity (option_map (λ j. j.type) o) then further 1 (target n s known [] e) else target n s known (a ∷ path) e

  abbrev path_by : Facts → Tree → Text → List Text → Option Judgement → List Violation
  path_by known e a bs o = path_violations n (has_path e a bs) (entity_steps s a bs (option_map (λ j. j.type) o)) (target n s known (fields_before s a bs (option_map (λ j. j.type) o)) e) (violations n s known e)

  stepped_at : (known : Facts) (whole e : Tree) (x : Typed) → Counts known e x → (if is_entity (Some x.type) then stepped n whole (further 1 (target_at n s [] e (marked x))) else violations_at n s e (marked x)) ≡ step_by known whole e (judgement s known e)
  stepped_at known whole e x h = (λ i. if is_entity (Some x.type) then stepped n whole (further 1 (h.far [] i)) else h.here i) ∙ ap (step_by known whole e) (sym h.judged)

  mutual
    counted : (known : Facts) (t : Tree) → Holds (Both known t) (typed s known t)
    counted known (lit p) = noted_holds (Both known (lit p)) _ _ _ (λ j. record { here = refl; far = λ path. refl })
    counted known (var x) = record { here = refl; far = λ path. refl }
    counted known (slot x) = record { here = refl; far = λ path. refl }
    counted known (unknown m a) = tt
    counted known (choice t a b) = choice_counts known t a b (λ k. typed s k a) (λ k. (with_judgement k a (typed s k a) (typed_is s k a) (counted k a))) (typed s known b) (with_judgement known b (typed s known b) (typed_is s known b) (counted known b)) (typed s known t) (with_judgement known t (typed s known t) (typed_is s known t) (counted known t))
    counted known (both a b) = and_counts known a b (λ k. typed s k b) (λ k. (with_judgement k b (typed s k b) (typed_is s k b) (counted k b))) (typed s known a) (with_judgement known a (typed s known a) (typed_is s known a) (counted known a))
    counted known (either a b) = or_counts known a b (typed s known b) (with_judgement known b (typed s known b) (typed_is s known b) (counted known b)) (typed s known a) (with_judgement known a (typed s known a) (typed_is s known a) (counted known a))
    counted known (unary o a) = then_holds (Counts known a) (Both known (unary o a)) _ (typed s known a) (with_judgement known a (typed s known a) (typed_is s known a) (counted known a)) (λ x h. noted_holds (Both known (unary o a)) _ _ _ (λ j. record { here = h.here; far = λ path. refl }))
    counted known (binary o a b) = then_holds (Counts known a) (Both known (binary o a b)) _ (typed s known a) (with_judgement known a (typed s known a) (typed_is s known a) (counted known a)) (λ x h. then_holds (Counts known b) (Both known (binary o a b)) _ (typed s known b) (with_judgement known b (typed s known b) (typed_is s known b) (counted known b)) (λ y k. noted_holds (Both known (binary o a b)) _ _ _ (λ j. record {
      here = λ i. (if looks_up o then stepped n (binary o a b) (further 1 (h.far [] i)) else h.here i) ++ k.here i;
      far = far_of o x y h k j.type j.facts;
    })))
      where
        far_of : (o : BinaryOp) (x y : Typed) → Counts known a x → Counts known b y → (u : Ty) (f : Facts) (path : List Text) → target_at n s path (binary o a b) (marked (made u f (binary o x.at y.at) (two (marked x) (marked y)))) ≡ target n s known path (binary o a b)
        far_of get_tag x y h k u f path = λ i. joined (k.here i) (further 1 (h.far [] i))
        far_of equal x y h k u f path = refl
        far_of less x y h k u f path = refl
        far_of less_or_equal x y h k u f path = refl
        far_of plus x y h k u f path = refl
        far_of difference x y h k u f path = refl
        far_of times x y h k u f path = refl
        far_of remainder x y h k u f path = refl
        far_of is_in x y h k u f path = refl
        far_of contains x y h k u f path = refl
        far_of contains_all x y h k u f path = refl
        far_of contains_any x y h k u f path = refl
        far_of has_tag x y h k u f path = refl
    counted known (call f ts) = then_holds (RowCounts known ts) (Both known (call f ts)) _ (typed_row s known ts) (row_counts known ts) (λ r h. noted_holds (Both known (call f ts)) _ _ _ (λ j. record { here = h.here; far = λ path. refl }))
    counted known (get_attr e a) = then_holds (Counts known e) (Both known (get_attr e a)) _ (typed s known e) (with_judgement known e (typed s known e) (typed_is s known e) (counted known e)) (λ x h. noted_holds (Both known (get_attr e a)) _ _ _ (λ j. record {
      here = stepped_at known (get_attr e a) e x h;
      far = λ path. (λ i. if is_entity (Some x.type) then further 1 (h.far [] i) else h.far (a ∷ path) i) ∙ ap (far_by known path a e) (sym h.judged);
    }))
    counted known (has_attr e a) = then_holds (Counts known e) (Both known (has_attr e a)) _ (typed s known e) (with_judgement known e (typed s known e) (typed_is s known e) (counted known e)) (λ x h. noted_holds (Both known (has_attr e a)) _ _ _ (λ j. record { here = stepped_at known (has_attr e a) e x h; far = λ path. refl }))
    counted known (has_path e a bs) = then_holds (Counts known e) (Both known (has_path e a bs)) _ (typed s known e) (with_judgement known e (typed s known e) (typed_is s known e) (counted known e)) (λ x h. noted_holds (Both known (has_path e a bs)) _ _ _ (λ j. record {
      here = (λ i. path_violations n (has_path e a bs) (entity_steps s a bs (Some x.type)) (h.far (fields_before s a bs (Some x.type)) i) (h.here i)) ∙ ap (path_by known e a bs) (sym h.judged);
      far = λ path. refl;
    }))
    counted known (like e p) = then_holds (Counts known e) (Both known (like e p)) _ (typed s known e) (with_judgement known e (typed s known e) (typed_is s known e) (counted known e)) (λ x h. noted_holds (Both known (like e p)) _ _ _ (λ j. record { here = h.here; far = λ path. refl }))
    counted known (is_type e m) = then_holds (Counts known e) (Both known (is_type e m)) _ (typed s known e) (with_judgement known e (typed s known e) (typed_is s known e) (counted known e)) (λ x h. noted_holds (Both known (is_type e m)) _ _ _ (λ j. record { here = h.here; far = λ path. refl }))
    counted known (set_literal ts) = then_holds (RowCounts known ts) (Both known (set_literal ts)) _ (typed_row s known ts) (row_counts known ts) (λ r h. noted_holds (Both known (set_literal ts)) _ _ _ (λ j. record { here = h.here; far = λ path. refl }))
    counted known (record_literal fs) = then_holds (FieldCounts known fs) (Both known (record_literal fs)) _ (typed_fields s known fs) (field_counts known fs) (λ r h. noted_holds (Both known (record_literal fs)) _ _ _ (λ j. record { here = h.here; far = h.far }))

    row_counts : (known : Facts) (ts : Trees) → Holds (RowCounts known ts) (typed_row s known ts)
    row_counts known no_trees = record { here = refl }
    row_counts known (tree e es) = then_holds (Counts known e) (RowCounts known (tree e es)) _ (typed s known e) (with_judgement known e (typed s known e) (typed_is s known e) (counted known e)) (λ x h. map_holds (RowCounts known es) (RowCounts known (tree e es)) _ (typed_row s known es) (row_counts known es) (λ r k. record { here = λ i. h.here i ++ k.here i }))

    field_counts : (known : Facts) (fs : TreeFields) → Holds (FieldCounts known fs) (typed_fields s known fs)
    field_counts known no_tree_fields = record { here = refl; far = λ path. no_fields path }
      where
        no_fields : (path : List Text) → target_in_field_row n s path no_tree_fields no_marks ≡ target_in_fields n s known path no_tree_fields
        no_fields [] = refl
        no_fields (a ∷ path) = refl
    field_counts known (tree_field b e fs) = then_holds (Counts known e) (FieldCounts known (tree_field b e fs)) _ (typed s known e) (with_judgement known e (typed s known e) (typed_is s known e) (counted known e)) (λ x h. map_holds (FieldCounts known fs) (FieldCounts known (tree_field b e fs)) _ (typed_fields s known fs) (field_counts known fs) (λ r k. record { here = λ i. h.here i ++ k.here i; far = far_of x r h k }))
      where
        far_of : (x : Typed) (r : FieldRow) → Counts known e x → FieldCounts known fs r → (path : List Text) → target_in_field_row n s path (tree_field b e fs) (marks (marked x) r.below) ≡ target_in_fields n s known path (tree_field b e fs)
        far_of x r h k [] = λ i. joined (h.here i) (k.far [] i)
        far_of x r h k (a ∷ path) = λ i. if bytes_eq a b then joined (k.here i) (h.far path i) else joined (h.here i) (k.far (a ∷ path) i)

  pub counted_is : (known : Facts) (t : Tree) (x : Typed) → typed s known t ≡ Some x → violations_at n s t (marked x) ≡ violations n s known t
  counted_is known t x e = let c : Counts known t x = subst (Holds (Counts known t)) e (with_judgement known t (typed s known t) (typed_is s known t) (counted known t)) in c.here
