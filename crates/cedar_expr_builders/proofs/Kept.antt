-- The trees of calls, sets and records, and what is below them, by those of their parts.
use Rattle.std.proofs.Common.{◌≡◌, List, [], ◌∷◌, refl, ap}
use Rattle.std.specs.Map.{values_of}
use Rattle.std.specs.declared.alloc.Global.{Global}
use Rattle.std.specs.declared.rc.RcStr.{RcStr}
use Rattle.cedar_expr_trees.specs.Trees.{named}
use Rattle.cedar_expr_trees.proofs.Trees.{call_tree, set_tree, record_tree, call_below, set_below, record_below}

pub ruleset kind_trees = (call_tree, set_tree, record_tree, call_below, set_below, record_below)

-- names don't change what stands under them
pub values_named : {A : Type 0} (es : List (RcStr Global × A)) → values_of (named es) ≡ values_of es
values_named [] = refl
values_named (e ∷ es) = ap (λ xs. e.1 ∷ xs) (values_named es)
