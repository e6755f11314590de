-- Expressions are equal exactly where their trees and the data of their subexpressions are.
use denote.Hole.Carrier
use Rattle.std.proofs.Common.{◌≡◌, ◌&&◌, Bool, true, List, [], ◌∷◌, map, refl, sym, ap, ◌∙◌}
use Rattle.std.specs.Rc.{rc_str_bytes}
use Rattle.std.specs.Str.{bytes_eq}
use Rattle.std.specs.Cmp.Lexicographic.{slice_cmp, pointwise}
use Rattle.std.specs.Ordering.{ordering_then}
use Rattle.std.specs.declared.alloc.Global.{Global}
use Rattle.std.specs.declared.cmp.Ordering.TheVariants.{Equal}
use Rattle.std.specs.declared.rc.RcStr.{RcStr}
use Rattle.cedar_expr_names.specs.Views.{plain_name_of, type_name_of}
use Rattle.cedar_expr_leaves.specs.Operators.{unary_op_of, binary_op_of}
use Rattle.cedar_expr_leaves.specs.Patterns.{pattern_of}
use Rattle.cedar_expr_leaves.proofs.Literals.{literals_eq_is}
use Rattle.cedar_expr_model.specs.Builder.{trees, tree_fields}
use Rattle.cedar_expr_model.specs.Order.{text_cmp, name_order}
use Rattle.cedar_expr_model.specs.Shape.{tree_cmp, trees_cmp, tree_fields_cmp, tree_eq, pattern_cmp, unary_cmp, binary_cmp}
use Rattle.cedar_expr_trees.specs.Trees.{tree_of, kind_tree, named, field_trees}
use Rattle.cedar_expr_trees.specs.declared.expr.Expr.{Expr, Expr-F, map-Expr, roll-Expr, ind-Expr}
use Rattle.cedar_expr_trees.specs.declared.expr.ExprKind.{ExprKind, ExprKind-F, map-ExprKind, out-ExprKind, roll-ExprKind, out-roll-ExprKind}
use Rattle.cedar_expr_shapes.proofs.AlongData.{Fits, fits_at, fits_leaf, fits_not, fits_then, fits_before, fits_own, fits_field, by_trees}
use Rattle.cedar_expr_shapes.proofs.EqualLeaves.{two_equal, texts_equal, rows_equal, vars_equal, slots_equal, unary_equal, binary_equal, names_equal, types_equal, patterns_equal, unknowns_equal}
use Rattle.cedar_expr_shapes.proofs.LevelData.{all_data, kind_data, row_data, level_data, data_rolled, data_seen}
use Rattle.cedar_expr_shapes.proofs.Levels.{level_tree, level_eq, kind_rolled, kind_seen}

module _ {T : Type 0} (D : T → T → Bool) (K : ExprKind T → ExprKind T → Bool) (R : Expr T → Expr T → Bool) where
  -- what the equality compares by its tree and its data
  abbrev KindAgrees : ExprKind T → Type 0
  KindAgrees k = (l : ExprKind T) → Fits D (K k l) (tree_cmp (kind_tree k) (kind_tree l)) (kind_data k) (kind_data l)

  abbrev Agrees : Expr T → Type 0
  Agrees e = (f : Expr T) → Fits D (R e f) (tree_cmp (tree_of e) (tree_of f)) (all_data e) (all_data f)

  rows_agree : (xs : List ((e : Expr T) × Agrees e)) (fs : List (Expr T))
      → Fits D (pointwise R (map (λ e. e.0) xs) fs) (trees_cmp (trees (map tree_of (map (λ e. e.0) xs))) (trees (map tree_of fs))) (row_data all_data (map (λ e. e.0) xs)) (row_data all_data fs)
  rows_agree [] [] = fits_leaf D true Equal refl
  rows_agree [] (f ∷ fs) = fits_not D _ _ _ refl
  rows_agree (x ∷ xs) [] = fits_not D _ _ _ refl
  rows_agree (x ∷ xs) (f ∷ fs) = fits_then D _ _ _ _ _ _ _ _ (x.1 f) (rows_agree xs fs)

  -- names and then expressions
  abbrev fields_by : RcStr Global × Expr T → RcStr Global × Expr T → Bool
  fields_by p q = bytes_eq (rc_str_bytes p.0) (rc_str_bytes q.0) && R p.1 q.1

  abbrev fields_data : List (RcStr Global × Expr T) → List T
  fields_data es = row_data (λ e. all_data e.1) es

  fields_agree : (xs : List (RcStr Global × ((e : Expr T) × Agrees e))) (fs : List (RcStr Global × Expr T))
      → Fits D (pointwise fields_by (map (λ e. (e.0, e.1.0)) xs) fs) (tree_fields_cmp (tree_fields (named (field_trees (map (λ e. (e.0, e.1.0)) xs)))) (tree_fields (named (field_trees fs))))
      (fields_data (map (λ e. (e.0, e.1.0)) xs)) (fields_data fs)
  fields_agree [] [] = fits_leaf D true Equal refl
  fields_agree [] (f ∷ fs) = fits_not D _ _ _ refl
  fields_agree (x ∷ xs) [] = fits_not D _ _ _ refl
  fields_agree (x ∷ xs) (f ∷ fs) = fits_field D _ _ _ _ _ _ _ _ _ _ (texts_equal x.0 f.0) (x.1.1 f.1) (fields_agree xs fs)

  -- a level of which each part agrees
  abbrev Agreeing : Type 0
  Agreeing = ExprKind-F T ((k : ExprKind T) × KindAgrees k) ((e : Expr T) × Agrees e)

  abbrev parts_of : Agreeing → ExprKind-F T (ExprKind T) (Expr T)
  parts_of y = map-ExprKind T ((k : ExprKind T) × KindAgrees k) ((e : Expr T) × Agrees e) (ExprKind T) (Expr T) (λ e. e.0) (λ e. e.0) y

  levels_agree : (y : Agreeing) (z : ExprKind-F T (ExprKind T) (Expr T))
      → Fits D (level_eq R (parts_of y) z) (tree_cmp (level_tree tree_of (parts_of y)) (level_tree tree_of z)) (level_data all_data (parts_of y)) (level_data all_data z)
  levels_agree (ExprKind-F.Lit p) (ExprKind-F.Lit q) = fits_leaf D _ _ (literals_eq_is p q)
  levels_agree (ExprKind-F.Var x) (ExprKind-F.Var y) = fits_leaf D _ _ (vars_equal x y)
  levels_agree (ExprKind-F.Slot s) (ExprKind-F.Slot t) = fits_leaf D _ _ (slots_equal s t)
  levels_agree (ExprKind-F.Unknown u) (ExprKind-F.Unknown v) = fits_leaf D _ _ (unknowns_equal u v)
  levels_agree (ExprKind-F.If a b c) (ExprKind-F.If d e f) = fits_then D _ _ _ _ _ _ _ _ (a.value.1 d.value) (fits_then D _ _ _ _ _ _ _ _ (b.value.1 e.value) (c.value.1 f.value))
  levels_agree (ExprKind-F.And a b) (ExprKind-F.And d e) = fits_then D _ _ _ _ _ _ _ _ (a.value.1 d.value) (b.value.1 e.value)
  levels_agree (ExprKind-F.Or a b) (ExprKind-F.Or d e) = fits_then D _ _ _ _ _ _ _ _ (a.value.1 d.value) (b.value.1 e.value)
  levels_agree (ExprKind-F.UnaryApp o a) (ExprKind-F.UnaryApp p b) =
      fits_then D _ _ (unary_cmp (unary_op_of o) (unary_op_of p)) _ [] [] _ _ (fits_leaf D _ (unary_cmp (unary_op_of o) (unary_op_of p)) (unary_equal o p)) (a.value.1 b.value)
  levels_agree (ExprKind-F.BinaryApp o a b) (ExprKind-F.BinaryApp p d e) =
      fits_then D _ _ (binary_cmp (binary_op_of o) (binary_op_of p)) _ [] [] _ _ (fits_leaf D _ (binary_cmp (binary_op_of o) (binary_op_of p)) (binary_equal o p))
      (fits_then D _ _ _ _ _ _ _ _ (a.value.1 d.value) (b.value.1 e.value))
  levels_agree (ExprKind-F.ExtensionFunctionApp f es) (ExprKind-F.ExtensionFunctionApp g ds) =
      fits_then D _ _ (name_order (plain_name_of f) (plain_name_of g)) _ [] [] _ _ (fits_leaf D _ (name_order (plain_name_of f) (plain_name_of g)) (names_equal f g)) (rows_agree es.value.items ds.value.items)
  levels_agree (ExprKind-F.GetAttr a n) (ExprKind-F.GetAttr b m) = fits_before D _ _ _ (text_cmp (rc_str_bytes n) (rc_str_bytes m)) _ _ (a.value.1 b.value) (texts_equal n m)
  levels_agree (ExprKind-F.HasAttr a n) (ExprKind-F.HasAttr b m) = fits_before D _ _ _ (text_cmp (rc_str_bytes n) (rc_str_bytes m)) _ _ (a.value.1 b.value) (texts_equal n m)
  levels_agree (ExprKind-F.ExtHasAttr a ns) (ExprKind-F.ExtHasAttr b ms) =
      let first = text_cmp (rc_str_bytes ns.value.head) (rc_str_bytes ms.value.head) in
      let others = slice_cmp text_cmp (map rc_str_bytes ns.value.tail.items) (map rc_str_bytes ms.value.tail.items) in
      fits_before D _ _ _ (ordering_then first others) _ _ (a.value.1 b.value) (two_equal _ _ first others (texts_equal ns.value.head ms.value.head) (rows_equal ns.value.tail.items ms.value.tail.items))
  levels_agree (ExprKind-F.Like a p) (ExprKind-F.Like b q) = fits_before D _ _ _ (pattern_cmp (pattern_of p) (pattern_of q)) _ _ (a.value.1 b.value) (patterns_equal p q)
  levels_agree (ExprKind-F.Is a n) (ExprKind-F.Is b m) = fits_before D _ _ _ (name_order (type_name_of n) (type_name_of m)) _ _ (a.value.1 b.value) (types_equal n m)
  levels_agree (ExprKind-F.Set es) (ExprKind-F.Set ds) = rows_agree es.value.items ds.value.items
  levels_agree (ExprKind-F.Record m) (ExprKind-F.Record n) = fields_agree m.value.entries n.value.entries
  levels_agree y z = fits_not D _ _ _ refl

  module _ (expr_is : (e f : Expr T) → R e f ≡ (K e.expr_kind f.expr_kind && D e.«data» f.«data»))
      (kind_is : (k l : ExprKind T) → K k l ≡ level_eq R (out-ExprKind T k) (out-ExprKind T l)) where
    kinds_agree : (x : ExprKind-F T (ExprKind T) (Expr T)) (y : Agreeing) → parts_of y ≡ x → KindAgrees (roll-ExprKind T x)
    kinds_agree x y e l =
        let tree = kind_rolled x ∙ ap (level_tree tree_of) (sym e) in
        fits_at D (K (roll-ExprKind T x) l) (level_eq R (parts_of y) (out-ExprKind T l)) _ (tree_cmp (level_tree tree_of (parts_of y)) (level_tree tree_of (out-ExprKind T l))) _ _ (level_data all_data (parts_of y)) (level_data all_data (out-ExprKind T l))
        (kind_is (roll-ExprKind T x) l ∙ ap (λ d. level_eq R d (out-ExprKind T l)) (out-roll-ExprKind T x ∙ sym e))
        (λ i. tree_cmp (tree i) (kind_seen l i))
        (data_rolled x ∙ ap (level_data all_data) (sym e))
        (data_seen l)
        (levels_agree y (out-ExprKind T l))

    exprs_agree : (x : Expr-F T (ExprKind T) (Expr T)) (y : Expr-F T ((k : ExprKind T) × KindAgrees k) ((e : Expr T) × Agrees e))
        → map-Expr T ((k : ExprKind T) × KindAgrees k) ((e : Expr T) × Agrees e) (ExprKind T) (Expr T) (λ e. e.0) (λ e. e.0) y ≡ x → Agrees (roll-Expr T x)
    unfolding Carrier.roll
    exprs_agree x y e f =
        let kind : x.expr_kind ≡ y.expr_kind.0 = ap (λ (d : Expr-F T (ExprKind T) (Expr T)). d.expr_kind) (sym e) in
        let agrees = fits_at D (K x.expr_kind f.expr_kind) (K y.expr_kind.0 f.expr_kind) (tree_cmp (kind_tree x.expr_kind) (tree_of f)) (tree_cmp (kind_tree y.expr_kind.0) (tree_of f)) (kind_data x.expr_kind) (kind_data f.expr_kind) (kind_data y.expr_kind.0) (kind_data f.expr_kind)
        (ap (λ k. K k f.expr_kind) kind) (ap (λ k. tree_cmp (kind_tree k) (tree_of f)) kind) (ap kind_data kind) refl (y.expr_kind.1 f.expr_kind) in
        let whole = fits_own D (K x.expr_kind f.expr_kind) (tree_cmp (kind_tree x.expr_kind) (tree_of f)) x.«data» f.«data» (kind_data x.expr_kind) (kind_data f.expr_kind) agrees in
        record { tests = expr_is (roll-Expr T x) f ∙ whole.tests; lengths = whole.lengths }

    all_agree : (e : Expr T) → Agrees e
    all_agree = ind-Expr T KindAgrees Agrees kinds_agree exprs_agree

    -- expressions are equal where their trees and their data are, and where the data say nothing, where their trees are
    pub equal_exprs : (e f : Expr T) → R e f ≡ (tree_eq (tree_of e) (tree_of f) && pointwise D (all_data e) (all_data f))
    equal_exprs e f = (all_agree e f).tests

    pub equal_trees : ((x y : T) → D x y ≡ true) → (e f : Expr T) → R e f ≡ tree_eq (tree_of e) (tree_of f)
    equal_trees plain e f = by_trees D plain (R e f) (tree_eq (tree_of e) (tree_of f)) (all_data e) (all_data f) (all_agree e f).tests (all_agree e f).lengths
