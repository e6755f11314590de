-- The trees of calls, sets and records, by those of their arguments, members and fields.
use Rattle.std.proofs.Common.{◌≡◌, List, [], ◌∷◌, ◌++◌, map, flat_map, refl, ap, ◌∙◌}
use mathlib.Core.Former.{list, pair, const, this}
use Rattle.std.specs.Map.{values_of}
use Rattle.std.specs.Rc.{rc_str_bytes}
use Rattle.std.specs.declared.alloc.Global.{Global}
use Rattle.std.specs.declared.collections.BTreeMap.{BTreeMap}
use Rattle.std.specs.declared.rc.Rc.{Rc}
use Rattle.std.specs.declared.rc.RcStr.{RcStr}
use Rattle.std.specs.declared.vec.Vec.{Vec}
use Rattle.cedar_expr_names.specs.Views.{plain_name_of}
use Rattle.cedar_expr_names.specs.declared.name.Name.{Name}
use Rattle.cedar_expr_model.specs.Builder.{trees, tree_fields}
use Rattle.cedar_expr_model.specs.Tree.{call, set_literal, record_literal, tree, TreeFields, tree_field}
use Rattle.cedar_expr_trees.specs.declared.expr.Expr.{Expr}
use Rattle.cedar_expr_trees.specs.declared.expr.ExprKind.{Set, Record, ExtensionFunctionApp, Row_of-Expr, end_of-Expr, more_of-Expr, items-the_row-Expr, items_hidden-the_row-Expr-0, items_hidden-the_row-Expr-1}
use Rattle.cedar_expr_trees.specs.declared.expr.ExprKind.TheBlock.{hidden-the_row-Expr-0, hidden-the_row-Expr-1, shape-the_row-Expr-1}
use Rattle.cedar_expr_trees.specs.Positions.{below, row_below, positions}
use Rattle.cedar_expr_trees.specs.Trees.{tree_of, kind_tree, row_trees, row_fields, named, field_trees}

row_trees_are : {T : Type 0} (n : _) (row : Row_of-Expr T n) → row_trees row ≡ trees (map tree_of (items-the_row-Expr T n row))
row_trees_are n end_of-Expr = refl
row_trees_are n (more_of-Expr k l d rest) = ap (λ ts. tree (kind_tree k) ts) (row_trees_are _ rest)

pub call_tree : {T : Type 0} (f : Name) (es : Rc (Vec (Expr T) Global) Global) → kind_tree {T = T} (ExtensionFunctionApp f es) ≡ call (plain_name_of f) (trees (map tree_of es.value.items))
call_tree {T} f es = ap (λ ts. call (plain_name_of f) ts) (row_trees_are _ (hidden-the_row-Expr-0 T es.value) ∙ ap (λ xs. trees (map tree_of xs)) (items_hidden-the_row-Expr-0 T es.value))

pub set_tree : {T : Type 0} (es : Rc (Vec (Expr T) Global) Global) → kind_tree {T = T} (Set es) ≡ set_literal (trees (map tree_of es.value.items))
set_tree {T} es = ap set_literal (row_trees_are _ (hidden-the_row-Expr-0 T es.value) ∙ ap (λ xs. trees (map tree_of xs)) (items_hidden-the_row-Expr-0 T es.value))

abbrev field_of : {T : Type 0} → RcStr Global → Expr T → TreeFields → TreeFields
field_of a e fs = tree_field (rc_str_bytes a) (tree_of e) fs

row_fields_are : {T : Type 0} (n : _) (row : Row_of-Expr T n) (es : List (RcStr Global × Expr T)) → items-the_row-Expr T n row ≡ values_of es → row_fields (map (λ e. rc_str_bytes e.0) es) row ≡ tree_fields (named (field_trees es))
row_fields_are n end_of-Expr [] e = refl
row_fields_are n end_of-Expr (x ∷ es) e = absurd (cc)
row_fields_are n (more_of-Expr k l d rest) [] e = absurd (cc)
row_fields_are {T} n (more_of-Expr k l d rest) (x ∷ es) e =
    let first : Expr T = record { expr_kind = k; source_loc = l; «data» = d } in
    let same : first ≡ x.1 = cc in
    ap (field_of x.0 first) (row_fields_are _ rest es (cc)) ∙ ap (λ y. field_of x.0 y (tree_fields (named (field_trees es)))) same

names_kept : {T : Type 0} (es : List (RcStr Global × Expr T)) → map (λ e. rc_str_bytes e.0) ((list (pair (const (RcStr Global)) (this {0}))).shape (Expr T) es) ≡ map (λ e. rc_str_bytes e.0) es
names_kept [] = refl
names_kept (x ∷ es) = ap (λ ns. rc_str_bytes x.0 ∷ ns) (names_kept es)

pub record_tree : {T : Type 0} (es : Rc (BTreeMap (RcStr Global) (Expr T) Global) Global) → kind_tree {T = T} (Record es) ≡ record_literal (tree_fields (named (field_trees es.value.entries)))
unfolding shape-the_row-Expr-1
record_tree {T} es =
    let row = hidden-the_row-Expr-1 T es.value in
    ap record_literal (ap (λ ns. row_fields ns row) (names_kept es.value.entries) ∙ row_fields_are _ row es.value.entries (items_hidden-the_row-Expr-1 T es.value))

-- calls of one name on the same arguments
pub same_call : {T : Type 0} (f g : Name) (es ds : Rc (Vec (Expr T) Global) Global) → plain_name_of f ≡ plain_name_of g → es.value ≡ ds.value → kind_tree {T = T} (ExtensionFunctionApp f es) ≡ kind_tree {T = T} (ExtensionFunctionApp g ds)
same_call {T} f g es ds p q = ap (λ n. call n (row_trees (hidden-the_row-Expr-0 T es.value))) p ∙ ap (λ v. call (plain_name_of g) (row_trees (hidden-the_row-Expr-0 T v))) q

-- what stands below calls, sets and records: their arguments, members and fields, each with all that is below it
row_below_is : {T : Type 0} (n : _) (row : Row_of-Expr T n) → row_below row ≡ flat_map positions (items-the_row-Expr T n row)
row_below_is n end_of-Expr = refl
row_below_is {T} n (more_of-Expr k l d rest) =
    let first : Expr T = record { expr_kind = k; source_loc = l; «data» = d } in
    ap (λ es. positions first ++ es) (row_below_is _ rest)

pub call_below : {T : Type 0} (f : Name) (es : Rc (Vec (Expr T) Global) Global) → below {T = T} (ExtensionFunctionApp f es) ≡ flat_map positions es.value.items
call_below {T} f es = row_below_is _ (hidden-the_row-Expr-0 T es.value) ∙ ap (flat_map positions) (items_hidden-the_row-Expr-0 T es.value)

pub set_below : {T : Type 0} (es : Rc (Vec (Expr T) Global) Global) → below {T = T} (Set es) ≡ flat_map positions es.value.items
set_below {T} es = row_below_is _ (hidden-the_row-Expr-0 T es.value) ∙ ap (flat_map positions) (items_hidden-the_row-Expr-0 T es.value)

pub record_below : {T : Type 0} (es : Rc (BTreeMap (RcStr Global) (Expr T) Global) Global) → below {T = T} (Record es) ≡ flat_map positions (values_of es.value.entries)
record_below {T} es = row_below_is _ (hidden-the_row-Expr-1 T es.value) ∙ ap (flat_map positions) (items_hidden-the_row-Expr-1 T es.value)

-- what stands below calls of the same arguments
pub same_below : {T : Type 0} (f g : Name) (es ds : Rc (Vec (Expr T) Global) Global) → es.value ≡ ds.value → below {T = T} (ExtensionFunctionApp f es) ≡ below {T = T} (ExtensionFunctionApp g ds)
same_below {T} f g es ds q = ap (λ v. row_below (hidden-the_row-Expr-0 T v)) q
