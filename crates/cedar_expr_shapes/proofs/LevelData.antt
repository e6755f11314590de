-- The data of the subexpressions of an expression, level by level.
use Rattle.std.proofs.Common.{◌≡◌, List, [], ◌∷◌, ◌++◌, map, refl, sym, ap, ◌∙◌}
use Rattle.std.specs.Map.{values_of}
use Rattle.std.proofs.lemmas.List.{map-append}
use Rattle.std.specs.declared.alloc.Global.{Global}
use Rattle.std.specs.declared.rc.RcStr.{RcStr}
use Rattle.cedar_expr_trees.specs.Positions.{expr_of, below, row_below, positions}
use Rattle.cedar_expr_trees.specs.Trees.{data_of}
use Rattle.cedar_expr_trees.specs.declared.expr.Expr.{Expr}
use Rattle.cedar_expr_trees.specs.declared.expr.ExprKind.{ExprKind, ExprKind-F, out-ExprKind, roll-ExprKind, roll-out-ExprKind, Row_of-Expr, end_of-Expr, more_of-Expr, items-the_row-Expr, items_hidden-the_row-Expr-0, items_hidden-the_row-Expr-1}
use Rattle.cedar_expr_trees.specs.declared.expr.ExprKind.TheBlock.{hidden-the_row-Expr-0, hidden-the_row-Expr-1}
use Rattle.cedar_expr_trees.specs.declared.expr.ExprKind.TheVariants.{rolls-Lit, rolls-Var, rolls-Slot, rolls-Unknown, rolls-If, rolls-And, rolls-Or, rolls-UnaryApp, rolls-BinaryApp, rolls-ExtensionFunctionApp, rolls-GetAttr, rolls-HasAttr, rolls-ExtHasAttr, rolls-Like, rolls-Is, rolls-Set, rolls-Record}

-- the data of an expression and of all below it, and those below a kind
abbrev pub all_data : {T : Type 0} → Expr T → List T
all_data e = map data_of (positions e)

abbrev pub kind_data : {T : Type 0} → ExprKind T → List T
kind_data k = map data_of (below k)

-- the data of what stands in a row
abbrev pub row_data : {T E : Type 0} → (E → List T) → List E → List T
row_data V [] = []
row_data V (e ∷ es) = V e ++ row_data V es

-- the data below a level, by those of the expressions in it
abbrev pub level_data : {T K E : Type 0} → (E → List T) → ExprKind-F T K E → List T
level_data V (ExprKind-F.Lit l) = []
level_data V (ExprKind-F.Var x) = []
level_data V (ExprKind-F.Slot s) = []
level_data V (ExprKind-F.Unknown u) = []
level_data V (ExprKind-F.If a b c) = V a.value ++ (V b.value ++ V c.value)
level_data V (ExprKind-F.And a b) = V a.value ++ V b.value
level_data V (ExprKind-F.Or a b) = V a.value ++ V b.value
level_data V (ExprKind-F.UnaryApp o a) = V a.value
level_data V (ExprKind-F.BinaryApp o a b) = V a.value ++ V b.value
level_data V (ExprKind-F.ExtensionFunctionApp f es) = row_data V es.value.items
level_data V (ExprKind-F.GetAttr a n) = V a.value
level_data V (ExprKind-F.HasAttr a n) = V a.value
level_data V (ExprKind-F.ExtHasAttr a ns) = V a.value
level_data V (ExprKind-F.Like a p) = V a.value
level_data V (ExprKind-F.Is a n) = V a.value
level_data V (ExprKind-F.Set es) = row_data V es.value.items
level_data V (ExprKind-F.Record m) = row_data (λ e. V e.1) m.value.entries

-- data behind data
two_data : {T : Type 0} (es fs : List (Expr T)) → map data_of (es ++ fs) ≡ map data_of es ++ map data_of fs
two_data es fs = map-append data_of es fs

three_data : {T : Type 0} (es fs gs : List (Expr T)) → map data_of (es ++ (fs ++ gs)) ≡ map data_of es ++ (map data_of fs ++ map data_of gs)
three_data es fs gs = map-append data_of es (fs ++ gs) ∙ ap (λ ds. map data_of es ++ ds) (map-append data_of fs gs)

row_data_is : {T : Type 0} (n : _) (row : Row_of-Expr T n) → map data_of (row_below row) ≡ row_data all_data (items-the_row-Expr T n row)
row_data_is n end_of-Expr = refl
row_data_is n (more_of-Expr k l d rest) = two_data (expr_of k l d ∷ below k) (row_below rest) ∙ ap (λ ds. (d ∷ kind_data k) ++ ds) (row_data_is _ rest)

values_data : {T E : Type 0} (V : E → List T) (es : List (RcStr Global × E)) → row_data V (values_of es) ≡ row_data (λ e. V e.1) es
values_data V [] = refl
values_data V (e ∷ es) = ap (λ ds. V e.1 ++ ds) (values_data V es)

-- the data below a kind are those of its level
pub data_rolled : {T : Type 0} (x : ExprKind-F T (ExprKind T) (Expr T)) → kind_data (roll-ExprKind T x) ≡ level_data all_data x
data_rolled (ExprKind-F.Lit l) = ap kind_data (rolls-Lit l)
data_rolled (ExprKind-F.Var x) = ap kind_data (rolls-Var x)
data_rolled (ExprKind-F.Slot s) = ap kind_data (rolls-Slot s)
data_rolled (ExprKind-F.Unknown u) = ap kind_data (rolls-Unknown u)
data_rolled (ExprKind-F.If a b c) = ap kind_data (rolls-If a b c) ∙ three_data (positions a.value) (positions b.value) (positions c.value)
data_rolled (ExprKind-F.And a b) = ap kind_data (rolls-And a b) ∙ two_data (positions a.value) (positions b.value)
data_rolled (ExprKind-F.Or a b) = ap kind_data (rolls-Or a b) ∙ two_data (positions a.value) (positions b.value)
data_rolled (ExprKind-F.UnaryApp o a) = ap kind_data (rolls-UnaryApp o a)
data_rolled (ExprKind-F.BinaryApp o a b) = ap kind_data (rolls-BinaryApp o a b) ∙ two_data (positions a.value) (positions b.value)
data_rolled {T} (ExprKind-F.ExtensionFunctionApp f es) =
    ap kind_data (rolls-ExtensionFunctionApp f es) ∙ row_data_is _ (hidden-the_row-Expr-0 T es.value) ∙ ap (row_data all_data) (items_hidden-the_row-Expr-0 T es.value)
data_rolled (ExprKind-F.GetAttr a n) = ap kind_data (rolls-GetAttr a n)
data_rolled (ExprKind-F.HasAttr a n) = ap kind_data (rolls-HasAttr a n)
data_rolled (ExprKind-F.ExtHasAttr a ns) = ap kind_data (rolls-ExtHasAttr a ns)
data_rolled (ExprKind-F.Like a p) = ap kind_data (rolls-Like a p)
data_rolled (ExprKind-F.Is a n) = ap kind_data (rolls-Is a n)
data_rolled {T} (ExprKind-F.Set es) = ap kind_data (rolls-Set es) ∙ row_data_is _ (hidden-the_row-Expr-0 T es.value) ∙ ap (row_data all_data) (items_hidden-the_row-Expr-0 T es.value)
data_rolled {T} (ExprKind-F.Record m) =
    ap kind_data (rolls-Record m)
    ∙ row_data_is _ (hidden-the_row-Expr-1 T m.value)
    ∙ ap (row_data all_data) (items_hidden-the_row-Expr-1 T m.value)
    ∙ values_data all_data m.value.entries

pub data_seen : {T : Type 0} (k : ExprKind T) → kind_data k ≡ level_data all_data (out-ExprKind T k)
data_seen {T} k = ap kind_data (sym (roll-out-ExprKind T k)) ∙ data_rolled (out-ExprKind T k)
