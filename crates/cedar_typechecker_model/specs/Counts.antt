-- How far an expression reaches into the store, by the types of its parts alone.
-- Rule: levels (docs/RULES.md).
use Rattle.std.specs.Prelude.{ℕ, max, List, [], ◌∷◌, ◌++◌, Option, None, if◌then◌else◌}
use Rattle.std.specs.Option.{option_map_or}
use Rattle.std.specs.Str.{bytes_eq}
use Rattle.cedar_expr_model.specs.Name.{Text}
use Rattle.cedar_expr_model.specs.Tree.{get_tag, Tree, lit, slot, choice, both, either, unary, binary, call, get_attr, has_attr, has_path, like, is_type, set_literal, record_literal, Trees, no_trees, tree, TreeFields, no_tree_fields, tree_field}
use Rattle.cedar_schema_model.specs.Types.{Ty}
use Rattle.cedar_store_model.specs.Looks.{looks_up}
use Rattle.cedar_typechecker_model.specs.Rules.{Setting}
use Rattle.cedar_typechecker_model.specs.Levels.{Violation, Count, count, joined, further, stepped, is_entity, literal_count, unless_false, unless_true, branches, entity_steps, fields_before, path_violations}
use Rattle.cedar_typechecker_model.specs.Typed.{Marks, mark, MarkRow, no_marks, marks}

abbrev pub top : Marks → Option Ty
top (mark d row) = d

abbrev pub parts : Marks → MarkRow
parts (mark d row) = row

abbrev pub head : MarkRow → Marks
head no_marks = mark None no_marks
head (marks m row) = m

abbrev pub rest : MarkRow → MarkRow
rest no_marks = no_marks
rest (marks m row) = row

abbrev pub first : Marks → Marks
first m = head (parts m)

abbrev pub second : Marks → Marks
second m = head (rest (parts m))

abbrev pub third : Marks → Marks
third m = head (rest (rest (parts m)))

abbrev pub behind : (Ty → List Violation → List Violation) → Option Ty → List Violation → List Violation
behind unless left right = option_map_or (λ t. unless t right) left []

abbrev pub behind_test : Option Ty → List Violation → List Violation → List Violation
behind_test test vs ws = option_map_or (λ t. branches (λ vs ws. vs ++ ws) t vs ws) test []

abbrev pub target_behind_test : Option Ty → Count → Count → Count
target_behind_test test c d = option_map_or (λ t. branches (λ c d. count (max c.steps d.steps) (c.found ++ d.found)) t c d) test (count 0 [])

abbrev mutual
  pub violations_at : ℕ → Setting → Tree → Marks → List Violation
  violations_at n s (choice t a b) m = violations_at n s t (first m) ++ behind_test (top (first m)) (violations_at n s a (second m)) (violations_at n s b (third m))
  violations_at n s (both a b) m = violations_at n s a (first m) ++ behind unless_false (top (first m)) (violations_at n s b (second m))
  violations_at n s (either a b) m = violations_at n s a (first m) ++ behind unless_true (top (first m)) (violations_at n s b (second m))
  violations_at n s (unary o a) m = violations_at n s a (first m)
  violations_at n s (binary o a b) m = (if looks_up o then stepped n (binary o a b) (further 1 (target_at n s [] a (first m))) else violations_at n s a (first m)) ++ violations_at n s b (second m)
  violations_at n s (call f ts) m = violations_in_row n s ts (parts m)
  violations_at n s (get_attr e a) m = if is_entity (top (first m)) then stepped n (get_attr e a) (further 1 (target_at n s [] e (first m))) else violations_at n s e (first m)
  violations_at n s (has_attr e a) m = if is_entity (top (first m)) then stepped n (has_attr e a) (further 1 (target_at n s [] e (first m))) else violations_at n s e (first m)
  violations_at n s (has_path e a bs) m =
      path_violations n (has_path e a bs) (entity_steps s a bs (top (first m))) (target_at n s (fields_before s a bs (top (first m))) e (first m)) (violations_at n s e (first m))
  violations_at n s (like e p) m = violations_at n s e (first m)
  violations_at n s (is_type e k) m = violations_at n s e (first m)
  violations_at n s (set_literal ts) m = violations_in_row n s ts (parts m)
  violations_at n s (record_literal fs) m = violations_in_field_row n s fs (parts m)
  violations_at n s e m = []

  pub violations_in_row : ℕ → Setting → Trees → MarkRow → List Violation
  violations_in_row n s no_trees row = []
  violations_in_row n s (tree e es) row = violations_at n s e (head row) ++ violations_in_row n s es (rest row)

  pub violations_in_field_row : ℕ → Setting → TreeFields → MarkRow → List Violation
  violations_in_field_row n s no_tree_fields row = []
  violations_in_field_row n s (tree_field a e fs) row = violations_at n s e (head row) ++ violations_in_field_row n s fs (rest row)

  pub target_at : ℕ → Setting → List Text → Tree → Marks → Count
  target_at n s path (lit p) m = literal_count s p
  target_at n s path (slot x) m = count 0 (record { at = slot x; required = None } ∷ [])
  target_at n s path (choice t a b) m = joined (violations_at n s t (first m)) (target_behind_test (top (first m)) (target_at n s path a (second m)) (target_at n s path b (third m)))
  target_at n s path (get_attr e a) m = if is_entity (top (first m)) then further 1 (target_at n s [] e (first m)) else target_at n s (a ∷ path) e (first m)
  target_at n s path (binary get_tag a b) m = joined (violations_at n s b (second m)) (further 1 (target_at n s [] a (first m)))
  target_at n s path (record_literal fs) m = target_in_field_row n s path fs (parts m)
  target_at n s path e m = count 0 []

  pub target_in_field_row : ℕ → Setting → List Text → TreeFields → MarkRow → Count
  target_in_field_row n s path no_tree_fields row = count 0 []
  target_in_field_row n s [] (tree_field b e fs) row = joined (violations_at n s e (head row)) (target_in_field_row n s [] fs (rest row))
  target_in_field_row n s (a ∷ path) (tree_field b e fs) row =
      if bytes_eq a b then joined (violations_in_field_row n s fs (rest row)) (target_at n s path e (head row)) else joined (violations_at n s e (head row)) (target_in_field_row n s (a ∷ path) fs (rest row))
