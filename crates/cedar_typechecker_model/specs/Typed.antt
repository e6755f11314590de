-- Typing with the type of every part that typing reaches, and none of the parts that it doesn't.
-- Rule: typing (docs/RULES.md).
use Rattle.std.specs.Prelude.{List, [], ◌∷◌, true, Option, Some, None, option_map, option_and_then}
use Rattle.cedar_expr_model.specs.Name.{Text, Name}
use Rattle.cedar_expr_model.specs.Pattern.{Pattern}
use Rattle.cedar_expr_model.specs.Tree.{UnaryOp, BinaryOp, Tree, lit, var, slot, unknown, choice, both, either, unary, binary, call, get_attr, has_attr, has_path, like, is_type, set_literal, record_literal, Trees, no_trees, tree, TreeFields, no_tree_fields, tree_field}
use Rattle.cedar_schema_model.specs.Types.{any_bool, only_true, only_false, Ty, bool_type, Attributes, no_attributes, attribute}
use Rattle.cedar_typechecker_model.specs.Facts.{Facts, no_facts, union, attribute_part}
use Rattle.cedar_typechecker_model.specs.Rules.{Setting, literal_type, var_type, slot_type, unary_type, like_type, is_type_type, has_type, get_type, set_literal_type, record_literal_type, call_type}
use Rattle.cedar_typechecker_model.specs.Typing.{Judgement, judged, plain, tested, conjoined, disjoined, chosen, path_judged, binary_judged}

-- the type of an expression, where typing reached it, and the same of its parts
mutual
  pub data Marks : Type 0 where
    mark : Option Ty → MarkRow → Marks

  pub data MarkRow : Type 0 where
    no_marks : MarkRow
    marks : Marks → MarkRow → MarkRow

abbrev pub one : Marks → MarkRow
one a = marks a no_marks

abbrev pub two : Marks → Marks → MarkRow
two a b = marks a (one b)

abbrev pub three : Marks → Marks → Marks → MarkRow
three a b c = marks a (two b c)

-- what typing doesn't reach
abbrev mutual
  pub blank : Tree → Marks
  blank (choice t a b) = mark None (three (blank t) (blank a) (blank b))
  blank (both a b) = mark None (two (blank a) (blank b))
  blank (either a b) = mark None (two (blank a) (blank b))
  blank (unary o a) = mark None (one (blank a))
  blank (binary o a b) = mark None (two (blank a) (blank b))
  blank (call f ts) = mark None (blanks ts)
  blank (get_attr t a) = mark None (one (blank t))
  blank (has_attr t a) = mark None (one (blank t))
  blank (has_path t a bs) = mark None (one (blank t))
  blank (like t p) = mark None (one (blank t))
  blank (is_type t n) = mark None (one (blank t))
  blank (set_literal ts) = mark None (blanks ts)
  blank (record_literal fs) = mark None (field_blanks fs)
  blank t = mark None no_marks

  pub blanks : Trees → MarkRow
  blanks no_trees = no_marks
  blanks (tree t ts) = marks (blank t) (blanks ts)

  pub field_blanks : TreeFields → MarkRow
  field_blanks no_tree_fields = no_marks
  field_blanks (tree_field a t fs) = marks (blank t) (field_blanks fs)

-- A typed expression: its type and its facts, the expression, and the types of its parts.
pub record Typed : Type 0 where
  pub type : Ty
  pub facts : Facts
  pub at : Tree
  pub below : MarkRow

abbrev pub marked : Typed → Marks
marked x = mark (Some x.type) x.below

-- the expression of these parts, where it is judged so
abbrev pub noted : Tree → MarkRow → Option Judgement → Option Typed
noted t row found = option_map (λ j. record { type = j.type; facts = j.facts; at = t; below = row }) found

-- What follows the first part: an answer, or going on with it and with what is known then.
pub data Step : Type 0 where
  done : Option Typed → Step
  goes_on : Typed → Facts → Step

abbrev pub on_step : (Typed → Facts → Option Typed) → Step → Option Typed
on_step next (done o) = o
on_step next (goes_on x k) = next x k

-- A conjunction: behind False the right side isn't typed.
abbrev pub and_step_at : Facts → Tree → Typed → Ty → Step
and_step_at known b x (bool_type only_false) = done (noted (both x.at b) (two (marked x) (blank b)) (judged (bool_type only_false) no_facts))
and_step_at known b x (bool_type l) = goes_on x (union known x.facts)
and_step_at known b x t = done None

abbrev pub and_step : Facts → Tree → Option Typed → Step
and_step known b None = done None
and_step known b (Some x) = and_step_at known b x x.type

abbrev pub conjoined_by : Ty → Facts → Ty → Facts → Option Judgement
conjoined_by (bool_type l) f t g = conjoined l f t g
conjoined_by u f t g = None

abbrev pub and_typed : Typed → Typed → Option Typed
and_typed x y = noted (both x.at y.at) (two (marked x) (marked y)) (conjoined_by x.type x.facts y.type y.facts)

-- A disjunction: behind True the right side isn't typed.
abbrev pub or_step_at : Tree → Typed → Ty → Step
or_step_at b x (bool_type only_true) = done (noted (either x.at b) (two (marked x) (blank b)) (judged (bool_type only_true) x.facts))
or_step_at b x (bool_type l) = goes_on x no_facts
or_step_at b x t = done None

abbrev pub or_step : Tree → Option Typed → Step
or_step b None = done None
or_step b (Some x) = or_step_at b x x.type

abbrev pub disjoined_by : Ty → Facts → Ty → Facts → Option Judgement
disjoined_by (bool_type l) f t g = disjoined l f t g
disjoined_by u f t g = None

abbrev pub or_typed : Typed → Typed → Option Typed
or_typed x y = noted (either x.at y.at) (two (marked x) (marked y)) (disjoined_by x.type x.facts y.type y.facts)

-- What follows the test of a choice: an answer, one of the branches, or both.
pub data ChoiceStep : Type 0 where
  refused : ChoiceStep
  takes_first : Typed → Facts → ChoiceStep
  takes_second : Typed → ChoiceStep
  takes_both : Typed → Facts → ChoiceStep

abbrev pub choice_step_at : Facts → Typed → Ty → ChoiceStep
choice_step_at known x (bool_type only_true) = takes_first x (union known x.facts)
choice_step_at known x (bool_type only_false) = takes_second x
choice_step_at known x (bool_type any_bool) = takes_both x (union known x.facts)
choice_step_at known x t = refused

abbrev pub choice_step : Facts → Option Typed → ChoiceStep
choice_step known None = refused
choice_step known (Some x) = choice_step_at known x x.type

abbrev pub first_typed : Tree → Typed → Typed → Option Typed
first_typed b x y = noted (choice x.at y.at b) (three (marked x) (marked y) (blank b)) (judged y.type (union x.facts y.facts))

abbrev pub second_typed : Tree → Typed → Typed → Option Typed
second_typed a x z = noted (choice x.at a z.at) (three (marked x) (blank a) (marked z)) (judged z.type z.facts)

abbrev pub chosen_typed : Setting → Typed → Typed → Typed → Option Typed
chosen_typed s x y z = noted (choice x.at y.at z.at) (three (marked x) (marked y) (marked z)) (chosen s y.type (union x.facts y.facts) z.type z.facts)

abbrev pub on_choice : (Facts → Option Typed) → Option Typed → Setting → Tree → Tree → ChoiceStep → Option Typed
on_choice first second s a b refused = None
on_choice first second s a b (takes_first x k) = option_and_then (first_typed b x) (first k)
on_choice first second s a b (takes_second x) = option_and_then (second_typed a x) second
on_choice first second s a b (takes_both x k) = option_and_then (λ y. option_and_then (chosen_typed s x y) second) (first k)

-- operators and tests by their typed operands
abbrev pub unary_typed : UnaryOp → Typed → Option Typed
unary_typed o x = noted (unary o x.at) (one (marked x)) (plain (unary_type o x.type))

abbrev pub binary_typed : Setting → Facts → BinaryOp → Tree → Tree → Typed → Typed → Option Typed
binary_typed s known o a b x y = noted (binary o x.at y.at) (two (marked x) (marked y)) (binary_judged s known o a b x.type y.type)

abbrev pub get_typed : Setting → Facts → Tree → Text → Typed → Option Typed
get_typed s known e a x = noted (get_attr x.at a) (one (marked x)) (plain (get_type s known e x.type a))

abbrev pub has_typed : Setting → Tree → Text → Typed → Option Typed
has_typed s e a x = noted (has_attr x.at a) (one (marked x)) (option_map (tested e (attribute_part a)) (has_type s x.type a))

abbrev pub path_typed : Setting → Tree → Text → List Text → Typed → Option Typed
path_typed s e a bs x = noted (has_path x.at a bs) (one (marked x)) (path_judged s a bs e x.type)

abbrev pub like_typed : Pattern → Typed → Option Typed
like_typed p x = noted (like x.at p) (one (marked x)) (plain (like_type x.type))

abbrev pub is_typed : Name → Typed → Option Typed
is_typed n x = noted (is_type x.at n) (one (marked x)) (plain (is_type_type n x.type))

-- expressions in a row, and the fields of a record, each typed
pub record Row : Type 0 where
  pub types : List Ty
  pub at : Trees
  pub below : MarkRow

abbrev pub no_row : Row
no_row = record { types = []; at = no_trees; below = no_marks }

abbrev pub row_with : Typed → Row → Row
row_with x r = record { types = x.type ∷ r.types; at = tree x.at r.at; below = marks (marked x) r.below }

pub record FieldRow : Type 0 where
  pub attributes : Attributes
  pub at : TreeFields
  pub below : MarkRow

abbrev pub no_field_row : FieldRow
no_field_row = record { attributes = no_attributes; at = no_tree_fields; below = no_marks }

abbrev pub field_row_with : Text → Typed → FieldRow → FieldRow
field_row_with a x r = record { attributes = attribute a x.type true r.attributes; at = tree_field a x.at r.at; below = marks (marked x) r.below }

abbrev pub call_typed : Setting → Name → Trees → Row → Option Typed
call_typed s n ts r = noted (call n r.at) r.below (plain (call_type s n ts r.types))

abbrev pub set_typed : Setting → Row → Option Typed
set_typed s r = noted (set_literal r.at) r.below (plain (set_literal_type s.mode r.types))

abbrev pub record_typed : FieldRow → Option Typed
record_typed r = noted (record_literal r.at) r.below (plain (record_literal_type r.attributes))

abbrev mutual
  -- the expression typed, where it has a type
  pub typed : Setting → Facts → Tree → Option Typed
  typed s known (lit p) = noted (lit p) no_marks (plain (literal_type s p))
  typed s known (var x) = noted (var x) no_marks (plain (Some (var_type s x)))
  typed s known (slot x) = noted (slot x) no_marks (plain (Some (slot_type s x)))
  typed s known (unknown n a) = None
  typed s known (choice t a b) = on_choice (λ k. typed s k a) (typed s known b) s a b (choice_step known (typed s known t))
  typed s known (both a b) = on_step (λ x k. option_and_then (and_typed x) (typed s k b)) (and_step known b (typed s known a))
  typed s known (either a b) = on_step (λ x k. option_and_then (or_typed x) (typed s known b)) (or_step b (typed s known a))
  typed s known (unary o a) = option_and_then (unary_typed o) (typed s known a)
  typed s known (binary o a b) = option_and_then (λ x. option_and_then (binary_typed s known o a b x) (typed s known b)) (typed s known a)
  typed s known (call n ts) = option_and_then (call_typed s n ts) (typed_row s known ts)
  typed s known (get_attr e a) = option_and_then (get_typed s known e a) (typed s known e)
  typed s known (has_attr e a) = option_and_then (has_typed s e a) (typed s known e)
  typed s known (has_path e a bs) = option_and_then (path_typed s e a bs) (typed s known e)
  typed s known (like e p) = option_and_then (like_typed p) (typed s known e)
  typed s known (is_type e n) = option_and_then (is_typed n) (typed s known e)
  typed s known (set_literal ts) = option_and_then (set_typed s) (typed_row s known ts)
  typed s known (record_literal fs) = option_and_then record_typed (typed_fields s known fs)

  pub typed_row : Setting → Facts → Trees → Option Row
  typed_row s known no_trees = Some no_row
  typed_row s known (tree e es) = option_and_then (λ x. option_map (row_with x) (typed_row s known es)) (typed s known e)

  pub typed_fields : Setting → Facts → TreeFields → Option FieldRow
  typed_fields s known no_tree_fields = Some no_field_row
  typed_fields s known (tree_field a e fs) = option_and_then (λ x. option_map (field_row_with a x) (typed_fields s known fs)) (typed s known e)
