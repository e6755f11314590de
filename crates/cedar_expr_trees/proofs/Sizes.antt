-- The arguments of a call are smaller than the call.
use Rattle.std.proofs.Common.{◌≡◌, ◌<◌, List, ap, arith}
use Rattle.std.specs.declared.alloc.Global.{Global}
use Rattle.std.specs.declared.rc.Rc.{Rc}
use Rattle.std.specs.declared.vec.Vec.{Vec}
use denote.Param.Weighed.{most}
use Rattle.cedar_expr_names.specs.declared.name.Name.{Name}
use Rattle.cedar_expr_trees.specs.declared.expr.Expr.{Expr, size-Expr, size_is-Expr}
use Rattle.cedar_expr_trees.specs.declared.expr.ExprKind.{ExtensionFunctionApp, size-ExprKind}
use Rattle.cedar_expr_trees.specs.declared.expr.ExprKind.TheViews.{sized-ExtensionFunctionApp}

pub arguments_are_smaller : {T : Type 0} (e : Expr T) (f : Name) (es : Rc (Vec (Expr T) Global) Global) (xs : List (Expr T)) → e.expr_kind ≡ ExtensionFunctionApp f es → xs ≡ es.value.items → most (size-Expr T) xs < size-Expr T e
arguments_are_smaller {T} e f es xs h k =
    let whole = size_is-Expr T e in
    let kind = ap (size-ExprKind T) h in
    let call = sized-ExtensionFunctionApp T f es in
    let same = ap (most (size-Expr T)) k in
    omega arith
