-- Expressions in a row, and the fields of records, as the model counts them and as the walk goes over them.
use Rattle.std.proofs.Common.{◌≡◌, ℕ, List, [], ◌∷◌, ◌++◌, map, Bool, true, false, Option, refl, ap, ◌∙◌, append_assoc}
use Rattle.std.specs.Prelude.{if◌then◌else◌}
use Rattle.std.specs.List.{flat_map}
use Rattle.std.specs.Map.{values_of}
use Rattle.std.specs.Rc.{rc_str_bytes}
use Rattle.std.specs.Str.{bytes_eq}
use Rattle.cedar_expr_model.specs.Name.{Text}
use Rattle.cedar_expr_model.specs.Builder.{trees, tree_fields}
use Rattle.cedar_expr_model.specs.Tree.{TreeFields, no_tree_fields, tree_field}
use Rattle.cedar_expr_trees.specs.Trees.{tree_of, named, field_trees}
use Rattle.cedar_expr_trees.specs.declared.expr.Expr.{Expr}
use Rattle.cedar_schema_types.specs.declared.types.Type.{«Type» as CodeType}
use Rattle.cedar_typechecker_model.specs.Levels.{Violation}
use Rattle.cedar_typechecker_model.specs.Rules.{Setting}
use Rattle.cedar_typechecker_model.specs.Typed.{Marks, MarkRow, no_marks, marks}
use Rattle.cedar_typechecker_model.specs.Counts.{head, rest}
use Rattle.cedar_typechecker_model.specs.Reported.{steps_in_fields, reported, reported_in_row, reported_in_fields, reached_in_fields}
use Rattle.cedar_typechecker_levels.specs.InRows.{Fields, steps_of, reported_of, reached_of, steps_in, others_in, reached_in}
use Rattle.cedar_typechecker_levels.specs.Marked.{marks_of}

abbrev pub rows : List Marks → MarkRow
rows [] = no_marks
rows (m ∷ ms) = marks m (rows ms)

-- the fields of a record, and the marks of their expressions
abbrev pub fields_of : Fields → TreeFields
fields_of es = tree_fields (named (field_trees es))

abbrev pub field_rows : Fields → MarkRow
field_rows es = rows (map marks_of (values_of es))

module _ (n : ℕ) (s : Setting) where
  pub row_is : (es : List (Expr (Option CodeType))) → flat_map (reported_of n s) es ≡ reported_in_row n s (trees (map tree_of es)) (rows (map marks_of es))
  row_is [] = refl
  row_is (e ∷ es) = ap (λ vs. reported_of n s e ++ vs) (row_is es)

  pub fields_is : (es : Fields) → flat_map (reported_of n s) (values_of es) ≡ reported_in_fields n s (fields_of es) (field_rows es)
  fields_is [] = refl
  fields_is (p ∷ es) = ap (λ vs. reported_of n s p.1 ++ vs) (fields_is es)

  -- without a path all fields are reported
  pub all_reached : (fs : TreeFields) (row : MarkRow) → reported_in_fields n s fs row ≡ reached_in_fields n s [] fs row
  all_reached no_tree_fields row = refl
  all_reached (tree_field b e fs) row = ap (λ vs. reported n s e (head row) ++ vs) (all_reached fs (rest row))

  -- with one all others, and then the field on the path
  pub by_name : (a : Text) (path : List Text) (es : Fields) → others_in n s a es ++ reached_in n s a path es ≡ reached_in_fields n s (a ∷ path) (fields_of es) (field_rows es)
  by_name a path [] = refl
  by_name a path (p ∷ es) = here (bytes_eq a (rc_str_bytes p.0)) (fields_is es) (by_name a path es)
    where
      later : List Violation
      later = flat_map (reported_of n s) (values_of es)

      here : (b : Bool) → later ≡ reported_in_fields n s (fields_of es) (field_rows es) → others_in n s a es ++ reached_in n s a path es ≡ reached_in_fields n s (a ∷ path) (fields_of es) (field_rows es)
          → (if b then later else (reported_of n s p.1 ++ others_in n s a es)) ++ (if b then reached_of n s path p.1 else reached_in n s a path es)
          ≡ (if b then (reported_in_fields n s (fields_of es) (field_rows es) ++ reached_of n s path p.1) else (reported_of n s p.1 ++ reached_in_fields n s (a ∷ path) (fields_of es) (field_rows es)))
      here true all rest = ap (λ vs. vs ++ reached_of n s path p.1) all
      here false all rest = append_assoc (reported_of n s p.1) (others_in n s a es) (reached_in n s a path es) ∙ ap (λ vs. reported_of n s p.1 ++ vs) rest

pub steps_by_name : (a : Text) (path : List Text) (es : Fields) → steps_in a path es ≡ steps_in_fields (a ∷ path) (fields_of es) (field_rows es)
steps_by_name a path [] = refl
steps_by_name a path (p ∷ es) = ap (λ k. if bytes_eq a (rc_str_bytes p.0) then steps_of path p.1 else k) (steps_by_name a path es)

pub no_steps : (fs : TreeFields) (row : MarkRow) → 0 ≡ steps_in_fields [] fs row
no_steps no_tree_fields row = refl
no_steps (tree_field b e fs) row = refl
