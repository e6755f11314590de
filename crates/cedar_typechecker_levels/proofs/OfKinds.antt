-- What calls, sets and records report, by their arguments, members and fields.
use Rattle.std.proofs.Common.{◌≡◌, ◌<◌, ℕ, List, [], ◌∷◌, ◌++◌, map, Option, Some, None, refl, sym, ap, ◌∙◌, arith}
use denote.Param.Weighed.{most}
use Rattle.std.specs.BTreeMap.{values}
use Rattle.std.specs.List.{flat_map}
use Rattle.std.specs.Option.{option_map_or}
use Rattle.std.specs.declared.alloc.Global.{Global}
use Rattle.std.specs.declared.collections.BTreeMap.{BTreeMap}
use Rattle.std.specs.declared.rc.Rc.{Rc}
use Rattle.std.specs.declared.rc.RcStr.{RcStr}
use Rattle.std.specs.declared.vec.Vec.{Vec}
use Rattle.cedar_expr_model.specs.Name.{Text}
use Rattle.cedar_expr_names.specs.declared.name.Name.{Name}
use Rattle.cedar_expr_trees.specs.Trees.{kind_tree}
use Rattle.cedar_expr_trees.specs.declared.expr.Expr.{Expr, size-Expr, size_is-Expr}
use Rattle.cedar_expr_trees.specs.declared.expr.ExprKind.{ExprKind, ExtensionFunctionApp, Set, Record, Row_of-Expr, end_of-Expr, more_of-Expr, items-the_row-Expr, items_hidden-the_row-Expr-0, items_hidden-the_row-Expr-1, size-ExprKind}
use Rattle.cedar_expr_trees.specs.declared.expr.ExprKind.TheViews.{sized-Set}
use Rattle.cedar_expr_trees.specs.declared.expr.ExprKind.TheBlock.{hidden-the_row-Expr-0, hidden-the_row-Expr-1}
use Rattle.cedar_expr_trees.proofs.Trees.{call_tree, set_tree, record_tree}
use Rattle.cedar_schema_types.specs.declared.types.Type.{«Type» as CodeType}
use Rattle.cedar_typechecker_model.specs.Levels.{Violation}
use Rattle.cedar_typechecker_model.specs.Rules.{Setting}
use Rattle.cedar_typechecker_model.specs.Typed.{mark, marks}
use Rattle.cedar_typechecker_model.specs.Reported.{steps, reported, reached, reached_in_fields, steps_in_fields}
use Rattle.cedar_typechecker_levels.specs.InRows.{steps_of, reported_of, reached_of, steps_in, others_in, reached_in}
use Rattle.cedar_typechecker_levels.specs.Marked.{type_in, kind_marks, row_marks, marks_of}
use Rattle.cedar_typechecker_levels.specs.Paths.{first_apart}
use Rattle.cedar_typechecker_levels.proofs.Rows.{rows, fields_of, field_rows, row_is, fields_is, all_reached, by_name, steps_by_name, no_steps}

abbrev Typed : Type 0
Typed = Expr (Option CodeType)

abbrev Vector : Type 0
Vector = Rc (Vec Typed Global) Global

abbrev Map : Type 0
Map = Rc (BTreeMap (RcStr Global) Typed Global) Global

row_marks_are : (k : _) (row : Row_of-Expr (Option CodeType) k) → row_marks row ≡ rows (map marks_of (items-the_row-Expr (Option CodeType) k row))
row_marks_are k end_of-Expr = refl
row_marks_are k (more_of-Expr e l d rest) = ap (λ ms. marks (mark (type_in d) (kind_marks e)) ms) (row_marks_are _ rest)

call_marks : (f : Name) (es : Vector) → kind_marks (ExtensionFunctionApp f es) ≡ rows (map marks_of es.value.items)
call_marks f es = row_marks_are _ (hidden-the_row-Expr-0 (Option CodeType) es.value) ∙ ap (λ xs. rows (map marks_of xs)) (items_hidden-the_row-Expr-0 (Option CodeType) es.value)

set_marks : (es : Vector) → kind_marks (Set es) ≡ rows (map marks_of es.value.items)
set_marks es = row_marks_are _ (hidden-the_row-Expr-0 (Option CodeType) es.value) ∙ ap (λ xs. rows (map marks_of xs)) (items_hidden-the_row-Expr-0 (Option CodeType) es.value)

record_marks : (es : Map) → kind_marks (Record es) ≡ field_rows es.value.entries
record_marks es = row_marks_are _ (hidden-the_row-Expr-1 (Option CodeType) es.value) ∙ ap (λ xs. rows (map marks_of xs)) (items_hidden-the_row-Expr-1 (Option CodeType) es.value)

module _ (n : ℕ) (s : Setting) (e : Typed) where
  abbrev at_kind : ExprKind (Option CodeType) → List Violation
  at_kind k = reported n s (kind_tree k) (mark (type_in e.«data») (kind_marks k))

  abbrev reached_at_kind : List Text → ExprKind (Option CodeType) → List Violation
  reached_at_kind path k = reached n s path (kind_tree k) (mark (type_in e.«data») (kind_marks k))

  pub call_reported : (f : Name) (es : Vector) (xs : List Typed) → e.expr_kind ≡ ExtensionFunctionApp f es → xs ≡ es.value.items → flat_map (reported_of n s) xs ≡ reported_of n s e
  call_reported f es xs is items =
      ap (flat_map (reported_of n s)) items ∙ row_is n s es.value.items
      ∙ (λ i. reported n s (sym (call_tree f es) i) (mark (type_in e.«data») (sym (call_marks f es) i)))
      ∙ ap at_kind (sym is)

  pub set_reported : (es : Vector) (xs : List Typed) → e.expr_kind ≡ Set es → xs ≡ es.value.items → flat_map (reported_of n s) xs ≡ reported_of n s e
  set_reported es xs is items =
      ap (flat_map (reported_of n s)) items ∙ row_is n s es.value.items
      ∙ (λ i. reported n s (sym (set_tree es) i) (mark (type_in e.«data») (sym (set_marks es) i)))
      ∙ ap at_kind (sym is)

  pub record_reported : (es : Map) (m : BTreeMap (RcStr Global) Typed Global) → e.expr_kind ≡ Record es → m ≡ es.value → flat_map (reported_of n s) (values m) ≡ reported_of n s e
  record_reported es m is same =
      ap (λ (y : BTreeMap (RcStr Global) Typed Global). flat_map (reported_of n s) (values y)) same ∙ fields_is n s es.value.entries
      ∙ (λ i. reported n s (sym (record_tree es) i) (mark (type_in e.«data») (sym (record_marks es) i)))
      ∙ ap at_kind (sym is)

  record_at : (path : List Text) (es : Map) → e.expr_kind ≡ Record es → reached_in_fields n s path (fields_of es.value.entries) (field_rows es.value.entries) ≡ reached_of n s path e
  record_at path es is = (λ i. reached n s path (sym (record_tree es) i) (mark (type_in e.«data») (sym (record_marks es) i))) ∙ ap (reached_at_kind path) (sym is)

  pub record_reached_all : (path : List Text) (es : Map) (m : BTreeMap (RcStr Global) Typed Global) → e.expr_kind ≡ Record es → m ≡ es.value → first_apart path ≡ None → flat_map (reported_of n s) (values m) ≡ reached_of n s path e
  record_reached_all [] es m is same apart =
      ap (λ (y : BTreeMap (RcStr Global) Typed Global). flat_map (reported_of n s) (values y)) same ∙ fields_is n s es.value.entries ∙ all_reached n s (fields_of es.value.entries) (field_rows es.value.entries) ∙ record_at [] es is
  record_reached_all (a ∷ path) es m is same apart = cc

  pub record_reached : (path : List Text) (a : Text) (others : List Text) (es : Map) (m : BTreeMap (RcStr Global) Typed Global) → e.expr_kind ≡ Record es → m ≡ es.value → first_apart path ≡ Some (a, others) → others_in n s a m.entries ++ reached_in n s a others m.entries ≡ reached_of n s path e
  record_reached [] a others es m is same apart = cc
  record_reached (b ∷ path) a others es m is same apart =
      let one : b ≡ a = ap (λ o. option_map_or (λ (q : Text × List Text). q.0) o a) apart in
      let two : path ≡ others = ap (λ o. option_map_or (λ (q : Text × List Text). q.1) o others) apart in
      ap (λ (y : BTreeMap (RcStr Global) Typed Global). others_in n s a y.entries ++ reached_in n s a others y.entries) same
      ∙ by_name n s a others es.value.entries ∙ record_at (a ∷ others) es is
      ∙ (λ i. reached_of n s (sym one i ∷ sym two i) e)

module _ (e : Typed) where
  steps_at : (path : List Text) (es : Map) → e.expr_kind ≡ Record es → steps_in_fields path (fields_of es.value.entries) (field_rows es.value.entries) ≡ steps_of path e
  steps_at path es is =
      (λ i. steps path (sym (record_tree es) i) (mark (type_in e.«data») (sym (record_marks es) i)))
      ∙ ap (λ (k : ExprKind (Option CodeType)). steps path (kind_tree k) (mark (type_in e.«data») (kind_marks k))) (sym is)

  pub record_steps_none : (path : List Text) (es : Map) → e.expr_kind ≡ Record es → first_apart path ≡ None → 0 ≡ steps_of path e
  record_steps_none [] es is apart = no_steps (fields_of es.value.entries) (field_rows es.value.entries) ∙ steps_at [] es is
  record_steps_none (a ∷ path) es is apart = cc

  pub record_steps : (path : List Text) (a : Text) (others : List Text) (es : Map) (m : BTreeMap (RcStr Global) Typed Global) → e.expr_kind ≡ Record es → m ≡ es.value → first_apart path ≡ Some (a, others) → steps_in a others m.entries ≡ steps_of path e
  record_steps [] a others es m is same apart = cc
  record_steps (b ∷ path) a others es m is same apart =
      let one : b ≡ a = ap (λ o. option_map_or (λ (q : Text × List Text). q.0) o a) apart in
      let two : path ≡ others = ap (λ o. option_map_or (λ (q : Text × List Text). q.1) o others) apart in
      ap (λ (y : BTreeMap (RcStr Global) Typed Global). steps_in a others y.entries) same
      ∙ steps_by_name a others es.value.entries ∙ steps_at (a ∷ others) es is
      ∙ (λ i. steps_of (sym one i ∷ sym two i) e)

-- the members of a set are smaller than the set
pub members_are_smaller : {T : Type 0} (e : Expr T) (es : Rc (Vec (Expr T) Global) Global) (xs : List (Expr T)) → e.expr_kind ≡ Set es → xs ≡ es.value.items → most (size-Expr T) xs < size-Expr T e
members_are_smaller {T} e es xs h k =
    let whole = size_is-Expr T e in
    let kind = ap (size-ExprKind T) h in
    let set = sized-Set T es in
    let same = ap (most (size-Expr T)) k in
    omega arith
