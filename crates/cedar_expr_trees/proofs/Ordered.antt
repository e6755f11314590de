-- The trees of the fields of a record stand in the order of their names.
use Rattle.std.proofs.Common.{◌≡◌, List, [], ◌∷◌, map, refl, sym, ap, ◌∙◌}
use Rattle.std.specs.declared.alloc.Global.{Global}
use Rattle.std.specs.declared.rc.RcStr.{RcStr}
use Rattle.cedar_expr_model.specs.Records.{in_order}
use Rattle.cedar_expr_values.specs.Fields.{by_text}
use Rattle.cedar_expr_values.proofs.Recorded.{under, in_order_under}
use Rattle.cedar_expr_trees.specs.declared.expr.Expr.{Expr}
use Rattle.cedar_expr_trees.specs.Trees.{tree_of, named, field_trees}

trees_under : {T : Type 0} (es : List (RcStr Global × Expr T)) → named (field_trees es) ≡ map (under tree_of) (named es)
trees_under [] = refl
trees_under (e ∷ es) = ap (λ ps. by_text (e.0, tree_of e.1) ∷ ps) (trees_under es)

pub ordered_trees : {T : Type 0} (es ps : List (RcStr Global × Expr T)) → named es ≡ in_order (named ps) → named (field_trees es) ≡ in_order (named (field_trees ps))
ordered_trees {T} es ps h = trees_under es ∙ ap (map (under (tree_of {T = T}))) h ∙ sym (in_order_under (tree_of {T = T}) (named ps)) ∙ ap in_order (sym (trees_under ps))
