-- What is typed has the type and the facts that are judged.
use Rattle.std.proofs.Common.{◌≡◌, List, ◌∷◌, true, Option, Some, None, refl, ap, ◌∙◌}
use Rattle.std.specs.Prelude.{option_map, option_and_then}
use Rattle.cedar_expr_model.specs.Tree.{Tree, lit, var, slot, unknown, choice, both, either, unary, binary, call, get_attr, has_attr, has_path, like, is_type, set_literal, record_literal, Trees, no_trees, tree, TreeFields, no_tree_fields, tree_field}
use Rattle.cedar_schema_model.specs.Types.{any_bool, only_true, only_false, Ty, never, bool_type, long_type, string_type, any_entity, entity_types, any_set, set_type, record_type, extension_type, Attributes, attribute}
use Rattle.cedar_typechecker_model.specs.Facts.{Facts, union}
use Rattle.cedar_typechecker_model.specs.Rules.{Setting}
use Rattle.cedar_typechecker_model.specs.Typing.{Judgement, judgement, judgements, field_judgements, and_judged, or_judged, choice_judged}
use Rattle.cedar_typechecker_model.specs.Typed.{MarkRow, Typed, noted, on_step, and_step_at, and_step, and_typed, or_step_at, or_step, or_typed, choice_step_at, choice_step, on_choice, second_typed, typed, typed_row, typed_fields, Row, FieldRow}
use Rattle.cedar_typechecker_model.specs.TypedLaws.{judgement_of}

noted_is : (t : Tree) (row : MarkRow) (j : Option Judgement) → option_map judgement_of (noted t row j) ≡ j
noted_is t row None = refl
noted_is t row (Some j) = refl

then_is : {A B C D : Type 0} (p : A → B) (q : C → D) (f : A → Option C) (g : B → Option D) (x : Option A) (j : Option B) → option_map p x ≡ j → ((a : A) → option_map q (f a) ≡ g (p a)) → option_map q (option_and_then f x) ≡ option_and_then g j
then_is p q f g None j h k = ap (option_and_then g) h
then_is p q f g (Some a) j h k = k a ∙ ap (option_and_then g) h

map_is : {A B C D : Type 0} (p : A → B) (q : C → D) (f : A → C) (g : B → D) (x : Option A) (j : Option B) → option_map p x ≡ j → ((a : A) → q (f a) ≡ g (p a)) → option_map q (option_map f x) ≡ option_map g j
map_is p q f g None j h k = ap (option_map g) h
map_is p q f g (Some a) j h k = ap Some (k a) ∙ ap (option_map g) h

abbrev made : Ty → Facts → Tree → MarkRow → Typed
made t f at row = record { type = t; facts = f; at = at; below = row }

-- the connectives, by the type of the left side
module _ (known : Facts) (b : Tree) (right : Facts → Option Typed) (judged_right : Facts → Option Judgement) (is : (f : Facts) → option_map judgement_of (right (union known f)) ≡ judged_right f) where
  after_and : (t : Ty) (f : Facts) (at : Tree) (row : MarkRow) → option_map judgement_of (on_step (λ x k. option_and_then (and_typed x) (right k)) (and_step_at known b (made t f at row) t)) ≡ and_judged judged_right t f
  after_and (bool_type only_false) f at row = refl
  after_and (bool_type only_true) f at row = then_is judgement_of judgement_of _ _ (right (union known f)) (judged_right f) (is f) (λ y. noted_is _ _ _)
  after_and (bool_type any_bool) f at row = then_is judgement_of judgement_of _ _ (right (union known f)) (judged_right f) (is f) (λ y. noted_is _ _ _)
  after_and never f at row = refl
  after_and long_type f at row = refl
  after_and string_type f at row = refl
  after_and any_entity f at row = refl
  after_and any_set f at row = refl
  after_and (entity_types ns) f at row = refl
  after_and (set_type t) f at row = refl
  after_and (record_type as_ o) f at row = refl
  after_and (extension_type n) f at row = refl

  and_is : (x : Option Typed) (j : Option Judgement) → option_map judgement_of x ≡ j → option_map judgement_of (on_step (λ x k. option_and_then (and_typed x) (right k)) (and_step known b x)) ≡ option_and_then (λ j. and_judged judged_right j.type j.facts) j
  and_is None j h = ap (option_and_then (λ j. and_judged judged_right j.type j.facts)) h
  and_is (Some x) j h = after_and x.type x.facts x.at x.below ∙ ap (option_and_then (λ j. and_judged judged_right j.type j.facts)) h

module _ (b : Tree) (right : Option Typed) (judged_right : Option Judgement) (is : option_map judgement_of right ≡ judged_right) where
  after_or : (t : Ty) (f : Facts) (at : Tree) (row : MarkRow) → option_map judgement_of (on_step (λ x k. option_and_then (or_typed x) right) (or_step_at b (made t f at row) t)) ≡ or_judged judged_right t f
  after_or (bool_type only_true) f at row = refl
  after_or (bool_type only_false) f at row = then_is judgement_of judgement_of _ _ right judged_right is (λ y. noted_is _ _ _)
  after_or (bool_type any_bool) f at row = then_is judgement_of judgement_of _ _ right judged_right is (λ y. noted_is _ _ _)
  after_or never f at row = refl
  after_or long_type f at row = refl
  after_or string_type f at row = refl
  after_or any_entity f at row = refl
  after_or any_set f at row = refl
  after_or (entity_types ns) f at row = refl
  after_or (set_type t) f at row = refl
  after_or (record_type as_ o) f at row = refl
  after_or (extension_type n) f at row = refl

  or_is : (x : Option Typed) (j : Option Judgement) → option_map judgement_of x ≡ j → option_map judgement_of (on_step (λ x k. option_and_then (or_typed x) right) (or_step b x)) ≡ option_and_then (λ j. or_judged judged_right j.type j.facts) j
  or_is None j h = ap (option_and_then (λ j. or_judged judged_right j.type j.facts)) h
  or_is (Some x) j h = after_or x.type x.facts x.at x.below ∙ ap (option_and_then (λ j. or_judged judged_right j.type j.facts)) h

-- a choice, by the type of its test
module _ (s : Setting) (known : Facts) (a b : Tree) (first : Facts → Option Typed) (judged_first : Facts → Option Judgement) (is : (f : Facts) → option_map judgement_of (first (union known f)) ≡ judged_first f) (second : Option Typed) (judged_second : Option Judgement) (also : option_map judgement_of second ≡ judged_second) where
  after_test : (t : Ty) (f : Facts) (at : Tree) (row : MarkRow) → option_map judgement_of (on_choice first second s a b (choice_step_at known (made t f at row) t)) ≡ choice_judged s judged_first judged_second t f
  after_test (bool_type only_true) f at row = then_is judgement_of judgement_of _ _ (first (union known f)) (judged_first f) (is f) (λ y. refl)
  after_test (bool_type only_false) f at row = second_alone second judged_second also
    where
      second_alone : (z : Option Typed) (j : Option Judgement) → option_map judgement_of z ≡ j → option_map judgement_of (option_and_then (second_typed a (made (bool_type only_false) f at row)) z) ≡ j
      second_alone None j h = h
      second_alone (Some z) j h = h
  after_test (bool_type any_bool) f at row =
      then_is judgement_of judgement_of _ _ (first (union known f)) (judged_first f) (is f) (λ y. then_is judgement_of judgement_of _ _ second judged_second also (λ z. noted_is _ _ _))
  after_test never f at row = refl
  after_test long_type f at row = refl
  after_test string_type f at row = refl
  after_test any_entity f at row = refl
  after_test any_set f at row = refl
  after_test (entity_types ns) f at row = refl
  after_test (set_type t) f at row = refl
  after_test (record_type as_ o) f at row = refl
  after_test (extension_type n) f at row = refl

  choice_is : (x : Option Typed) (j : Option Judgement) → option_map judgement_of x ≡ j → option_map judgement_of (on_choice first second s a b (choice_step known x)) ≡ option_and_then (λ j. choice_judged s judged_first judged_second j.type j.facts) j
  choice_is None j h = ap (option_and_then (λ j. choice_judged s judged_first judged_second j.type j.facts)) h
  choice_is (Some x) j h = after_test x.type x.facts x.at x.below ∙ ap (option_and_then (λ j. choice_judged s judged_first judged_second j.type j.facts)) h

abbrev types_in : Row → List Ty
types_in r = r.types

abbrev attributes_in : FieldRow → Attributes
attributes_in r = r.attributes

mutual
  pub typed_is : (s : Setting) (known : Facts) (t : Tree) → option_map judgement_of (typed s known t) ≡ judgement s known t
  typed_is s known (lit p) = noted_is _ _ _
  typed_is s known (var x) = refl
  typed_is s known (slot x) = refl
  typed_is s known (unknown n a) = refl
  typed_is s known (choice t a b) = choice_is s known a b (λ k. typed s k a) (λ f. judgement s (union known f) a) (λ f. typed_is s (union known f) a) (typed s known b) (judgement s known b) (typed_is s known b) (typed s known t) (judgement s known t) (typed_is s known t)
  typed_is s known (both a b) = and_is known b (λ k. typed s k b) (λ f. judgement s (union known f) b) (λ f. typed_is s (union known f) b) (typed s known a) (judgement s known a) (typed_is s known a)
  typed_is s known (either a b) = or_is b (typed s known b) (judgement s known b) (typed_is s known b) (typed s known a) (judgement s known a) (typed_is s known a)
  typed_is s known (unary o a) = then_is judgement_of judgement_of _ _ (typed s known a) (judgement s known a) (typed_is s known a) (λ x. noted_is _ _ _)
  typed_is s known (binary o a b) = then_is judgement_of judgement_of _ _ (typed s known a) (judgement s known a) (typed_is s known a) (λ x. then_is judgement_of judgement_of _ _ (typed s known b) (judgement s known b) (typed_is s known b) (λ y. noted_is _ _ _))
  typed_is s known (call n ts) = then_is types_in judgement_of _ _ (typed_row s known ts) (judgements s known ts) (row_is s known ts) (λ x. noted_is _ _ _)
  typed_is s known (get_attr e a) = then_is judgement_of judgement_of _ _ (typed s known e) (judgement s known e) (typed_is s known e) (λ x. noted_is _ _ _)
  typed_is s known (has_attr e a) = then_is judgement_of judgement_of _ _ (typed s known e) (judgement s known e) (typed_is s known e) (λ x. noted_is _ _ _)
  typed_is s known (has_path e a bs) = then_is judgement_of judgement_of _ _ (typed s known e) (judgement s known e) (typed_is s known e) (λ x. noted_is _ _ _)
  typed_is s known (like e p) = then_is judgement_of judgement_of _ _ (typed s known e) (judgement s known e) (typed_is s known e) (λ x. noted_is _ _ _)
  typed_is s known (is_type e n) = then_is judgement_of judgement_of _ _ (typed s known e) (judgement s known e) (typed_is s known e) (λ x. noted_is _ _ _)
  typed_is s known (set_literal ts) = then_is types_in judgement_of _ _ (typed_row s known ts) (judgements s known ts) (row_is s known ts) (λ x. noted_is _ _ _)
  typed_is s known (record_literal fs) = then_is attributes_in judgement_of _ _ (typed_fields s known fs) (field_judgements s known fs) (fields_are s known fs) (λ x. noted_is _ _ _)

  row_is : (s : Setting) (known : Facts) (ts : Trees) → option_map types_in (typed_row s known ts) ≡ judgements s known ts
  row_is s known no_trees = refl
  row_is s known (tree e es) = then_is judgement_of types_in _ _ (typed s known e) (judgement s known e) (typed_is s known e) (λ x. map_is types_in types_in _ (λ ts. x.type ∷ ts) (typed_row s known es) (judgements s known es) (row_is s known es) (λ r. refl))

  fields_are : (s : Setting) (known : Facts) (fs : TreeFields) → option_map attributes_in (typed_fields s known fs) ≡ field_judgements s known fs
  fields_are s known no_tree_fields = refl
  fields_are s known (tree_field a e fs) = then_is judgement_of attributes_in _ _ (typed s known e) (judgement s known e) (typed_is s known e) (λ x. map_is attributes_in attributes_in _ (λ bs. attribute a x.type true bs) (typed_fields s known fs) (field_judgements s known fs) (fields_are s known fs) (λ r. refl))
