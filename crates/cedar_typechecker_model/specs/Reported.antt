-- How far a typed expression reaches into the store, as a walk along it counts: steps by themselves, up to the number that stands for any
-- greater one, and violations in the order in which the walk meets them.
-- Rule: levels (docs/RULES.md).
use Rattle.std.specs.Prelude.{◌+◌, ◌==◌, ℕ, max, nat_le, List, [], ◌∷◌, ◌++◌, Bool, true, false, Option, Some, None, if◌then◌else◌}
use Rattle.std.specs.Str.{bytes_eq}
use Rattle.cedar_expr_model.specs.Name.{Text}
use Rattle.cedar_expr_model.specs.Tree.{BinaryOp, get_tag, Tree, lit, slot, choice, both, either, unary, binary, call, get_attr, has_attr, has_path, like, is_type, set_literal, record_literal, Trees, no_trees, tree, TreeFields, no_tree_fields, tree_field}
use Rattle.cedar_schema_model.specs.Types.{only_true, only_false, Ty, bool_type}
use Rattle.cedar_store_model.specs.Looks.{looks_up}
use Rattle.cedar_typechecker_model.specs.Rules.{Setting}
use Rattle.cedar_typechecker_model.specs.Levels.{Violation, needed, is_entity, literal_count, entity_steps, fields_before}
use Rattle.cedar_typechecker_model.specs.Typed.{Marks, MarkRow}
use Rattle.cedar_typechecker_model.specs.Counts.{top, parts, head, rest, first, second, third}

-- so many steps further
abbrev pub further_on : ℕ → ℕ → ℕ
further_on more k = needed (k + more)

-- whether a part of this type was typed and may be true, and may be false
abbrev pub may_be_true : Option Ty → Bool
may_be_true None = false
may_be_true (Some (bool_type only_false)) = false
may_be_true (Some t) = true

abbrev pub may_be_false : Option Ty → Bool
may_be_false None = false
may_be_false (Some (bool_type only_true)) = false
may_be_false (Some t) = true

abbrev pub taken : Bool → List Violation → List Violation
taken b vs = if b then vs else []

abbrev pub taken_steps : Bool → ℕ → ℕ
taken_steps b k = if b then k else 0

-- a violation where the step needs a greater level
abbrev pub too_far : ℕ → Tree → ℕ → List Violation
too_far n e k = if nat_le k n then [] else (record { at = e; required = Some k } ∷ [])

-- of a path with so many steps on entities: its own violation, or what its operand has
abbrev pub path_reported : ℕ → Tree → ℕ → ℕ → List Violation → List Violation → List Violation
path_reported n e more k reached inside = if more == 0 then inside else (too_far n e (further_on more k) ++ reached)

abbrev pub is_get_tag : BinaryOp → Bool
is_get_tag get_tag = true
is_get_tag o = false

-- how many steps from the request the entity lies that the fields of the path lead to from an expression
abbrev mutual
  pub steps : List Text → Tree → Marks → ℕ
  steps path (choice t a b) m = max (taken_steps (may_be_true (top (first m))) (steps path a (second m))) (taken_steps (may_be_false (top (first m))) (steps path b (third m)))
  steps path (get_attr e a) m = if is_entity (top (first m)) then further_on 1 (steps [] e (first m)) else steps (a ∷ path) e (first m)
  steps path (binary o a b) m = if is_get_tag o then further_on 1 (steps [] a (first m)) else 0
  steps path (record_literal fs) m = steps_in_fields path fs (parts m)
  steps path e m = 0

  pub steps_in_fields : List Text → TreeFields → MarkRow → ℕ
  steps_in_fields path no_tree_fields row = 0
  steps_in_fields [] (tree_field b e fs) row = 0
  steps_in_fields (a ∷ path) (tree_field b e fs) row = if bytes_eq a b then steps path e (head row) else steps_in_fields (a ∷ path) fs (rest row)

abbrev mutual
  -- the violations of an expression at a level
  pub reported : ℕ → Setting → Tree → Marks → List Violation
  reported n s (choice t a b) m = reported n s t (first m) ++ (taken (may_be_true (top (first m))) (reported n s a (second m)) ++ taken (may_be_false (top (first m))) (reported n s b (third m)))
  reported n s (both a b) m = reported n s a (first m) ++ taken (may_be_true (top (first m))) (reported n s b (second m))
  reported n s (either a b) m = reported n s a (first m) ++ taken (may_be_false (top (first m))) (reported n s b (second m))
  reported n s (unary o a) m = reported n s a (first m)
  reported n s (binary o a b) m =
      (if looks_up o then (too_far n (binary o a b) (further_on 1 (steps [] a (first m))) ++ reached n s [] a (first m)) else reported n s a (first m)) ++ reported n s b (second m)
  reported n s (call f ts) m = reported_in_row n s ts (parts m)
  reported n s (get_attr e a) m = if is_entity (top (first m)) then (too_far n (get_attr e a) (further_on 1 (steps [] e (first m))) ++ reached n s [] e (first m)) else reported n s e (first m)
  reported n s (has_attr e a) m = if is_entity (top (first m)) then (too_far n (has_attr e a) (further_on 1 (steps [] e (first m))) ++ reached n s [] e (first m)) else reported n s e (first m)
  reported n s (has_path e a bs) m =
      path_reported n (has_path e a bs) (needed (entity_steps s a bs (top (first m)))) (steps (fields_before s a bs (top (first m))) e (first m))
      (reached n s (fields_before s a bs (top (first m))) e (first m)) (reported n s e (first m))
  reported n s (like e p) m = reported n s e (first m)
  reported n s (is_type e k) m = reported n s e (first m)
  reported n s (set_literal ts) m = reported_in_row n s ts (parts m)
  reported n s (record_literal fs) m = reported_in_fields n s fs (parts m)
  reported n s e m = []

  pub reported_in_row : ℕ → Setting → Trees → MarkRow → List Violation
  reported_in_row n s no_trees row = []
  reported_in_row n s (tree e es) row = reported n s e (head row) ++ reported_in_row n s es (rest row)

  pub reported_in_fields : ℕ → Setting → TreeFields → MarkRow → List Violation
  reported_in_fields n s no_tree_fields row = []
  reported_in_fields n s (tree_field a e fs) row = reported n s e (head row) ++ reported_in_fields n s fs (rest row)

  -- the violations on the way to what a target leads to
  pub reached : ℕ → Setting → List Text → Tree → Marks → List Violation
  reached n s path (lit p) m = (literal_count s p).found
  reached n s path (slot x) m = record { at = slot x; required = None } ∷ []
  reached n s path (choice t a b) m = reported n s t (first m) ++ (taken (may_be_true (top (first m))) (reached n s path a (second m)) ++ taken (may_be_false (top (first m))) (reached n s path b (third m)))
  reached n s path (get_attr e a) m = if is_entity (top (first m)) then reached n s [] e (first m) else reached n s (a ∷ path) e (first m)
  reached n s path (binary o a b) m = if is_get_tag o then (reported n s b (second m) ++ reached n s [] a (first m)) else []
  reached n s path (record_literal fs) m = reached_in_fields n s path fs (parts m)
  reached n s path e m = []

  pub reached_in_fields : ℕ → Setting → List Text → TreeFields → MarkRow → List Violation
  reached_in_fields n s path no_tree_fields row = []
  reached_in_fields n s [] (tree_field b e fs) row = reported n s e (head row) ++ reached_in_fields n s [] fs (rest row)
  reached_in_fields n s (a ∷ path) (tree_field b e fs) row =
      if bytes_eq a b then (reported_in_fields n s fs (rest row) ++ reached n s path e (head row)) else (reported n s e (head row) ++ reached_in_fields n s (a ∷ path) fs (rest row))
