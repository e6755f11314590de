-- The types of the members of a set, of the arguments of a call and of the fields of a record.
use Rattle.std.proofs.Common.{◌≡◌, List, [], ◌∷◌, map, Option, refl, ap, ◌∙◌}
use Rattle.std.specs.Map.{values_of}
use Rattle.std.specs.declared.alloc.Global.{Global}
use Rattle.std.specs.declared.collections.BTreeMap.{BTreeMap}
use Rattle.std.specs.declared.rc.Rc.{Rc}
use Rattle.std.specs.declared.rc.RcStr.{RcStr}
use Rattle.std.specs.declared.vec.Vec.{Vec}
use Rattle.cedar_expr_names.specs.declared.name.Name.{Name}
use Rattle.cedar_expr_trees.specs.declared.expr.Expr.{Expr}
use Rattle.cedar_expr_trees.specs.declared.expr.ExprKind.{Set, Record, ExtensionFunctionApp, Row_of-Expr, end_of-Expr, more_of-Expr, items-the_row-Expr, items_hidden-the_row-Expr-0, items_hidden-the_row-Expr-1}
use Rattle.cedar_expr_trees.specs.declared.expr.ExprKind.TheBlock.{hidden-the_row-Expr-0, hidden-the_row-Expr-1}
use Rattle.cedar_schema_types.specs.declared.types.Type.{«Type» as CodeType}
use Rattle.cedar_typechecker_model.specs.Typed.{mark, marks}
use Rattle.cedar_typechecker_answers.specs.Marked.{type_in, kind_marks, row_marks, marks_of, rows}

row_marks_are : (n : _) (row : Row_of-Expr (Option CodeType) n) → row_marks row ≡ rows (map marks_of (items-the_row-Expr (Option CodeType) n row))
row_marks_are n end_of-Expr = refl
row_marks_are n (more_of-Expr k l d rest) = ap (λ ms. marks (mark (type_in d) (kind_marks k)) ms) (row_marks_are _ rest)

pub set_marks : (es : Rc (Vec (Expr (Option CodeType)) Global) Global) → kind_marks (Set es) ≡ rows (map marks_of es.value.items)
set_marks es = row_marks_are _ (hidden-the_row-Expr-0 (Option CodeType) es.value) ∙ ap (λ xs. rows (map marks_of xs)) (items_hidden-the_row-Expr-0 (Option CodeType) es.value)

pub call_marks : (f : Name) (es : Rc (Vec (Expr (Option CodeType)) Global) Global) → kind_marks (ExtensionFunctionApp f es) ≡ rows (map marks_of es.value.items)
call_marks f es = row_marks_are _ (hidden-the_row-Expr-0 (Option CodeType) es.value) ∙ ap (λ xs. rows (map marks_of xs)) (items_hidden-the_row-Expr-0 (Option CodeType) es.value)

marks_of_values : (es : List (RcStr Global × Expr (Option CodeType))) → map marks_of (values_of es) ≡ map (λ e. marks_of e.1) es
marks_of_values [] = refl
marks_of_values (e ∷ es) = ap (λ ms. marks_of e.1 ∷ ms) (marks_of_values es)

pub record_marks : (es : Rc (BTreeMap (RcStr Global) (Expr (Option CodeType)) Global) Global) → kind_marks (Record es) ≡ rows (map (λ e. marks_of e.1) es.value.entries)
record_marks es =
    row_marks_are _ (hidden-the_row-Expr-1 (Option CodeType) es.value)
    ∙ ap (λ xs. rows (map marks_of xs)) (items_hidden-the_row-Expr-1 (Option CodeType) es.value)
    ∙ ap rows (marks_of_values es.value.entries)
