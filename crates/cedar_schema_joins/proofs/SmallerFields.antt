-- The fields that are left are no deeper than all fields.
use Rattle.std.proofs.Common.{◌≡◌, ℕ, ◌≤◌, List, ◌∷◌, map, ap, arith}
use denote.Param.Weighed.{most}
use Rattle.std.specs.declared.alloc.Global.{Global}
use Rattle.std.specs.declared.rc.RcStr.{RcStr}
use Rattle.cedar_expr_trees.specs.declared.expr.Expr.{Expr, size-Expr}

abbrev pub deepest_field : {T : Type 0} → List (RcStr Global × Expr T) → ℕ
deepest_field {T} es = most (size-Expr T) (map (λ e. e.1) es)

pub one_is_smaller : {T : Type 0} (all rest later : List (RcStr Global × Expr T)) (k : RcStr Global) (x : Expr T) → deepest_field rest ≤ deepest_field all → rest ≡ (k, x) ∷ later → size-Expr T x ≤ deepest_field all
one_is_smaller {T} all rest later k x h is = let here = ap (deepest_field {T = T}) is in omega (arith, here, h)

pub fewer_are_smaller : {T : Type 0} (all rest later : List (RcStr Global × Expr T)) (k : RcStr Global) (x : Expr T) → deepest_field rest ≤ deepest_field all → rest ≡ (k, x) ∷ later → deepest_field later ≤ deepest_field all
fewer_are_smaller {T} all rest later k x h is = let here = ap (deepest_field {T = T}) is in omega (arith, here, h)
