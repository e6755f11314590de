-- Copies of the fields of a record.
use Rattle.std.proofs.Common.{◌≡◌, List, [], ◌∷◌, map, Result, Ok, Err, IfOk, refl, sym, ap, ◌∙◌}
use Rattle.std.specs.List.Sorted.{IsStrictlySortedBy}
use Rattle.std.specs.Map.{keys_of}
use Rattle.std.specs.Rc.{rc_str_bytes}
use Rattle.std.specs.declared.alloc.Global.{Global}
use Rattle.std.specs.declared.collections.BTreeMap.{BTreeMap}
use Rattle.std.specs.declared.rc.RcStr.{RcStr}
use Rattle.cedar_expr_model.specs.Name.{Text}
use Rattle.cedar_expr_model.specs.Order.{text_cmp}
use Rattle.cedar_expr_model.specs.Records.{in_order}
use Rattle.cedar_expr_model.specs.Tree.{Tree}
use Rattle.cedar_expr_trees.specs.declared.expr.Expr.{Expr}
use Rattle.cedar_expr_trees.specs.Trees.{tree_of, named as by_names}
use Rattle.cedar_typechecker_answers.specs.Marked.{named_tree}
use Rattle.cedar_typechecker_answers.proofs.Copied.{copies_rise}
use Rattle.cedar_typechecker_answers.proofs.Fields.{same_fields}

abbrev tree_at : Text × Expr Unit → Text × Tree
tree_at p = (p.0, tree_of p.1)

trees_at : (es : List (RcStr Global × Expr Unit)) → map named_tree es ≡ map tree_at (by_names es)
trees_at [] = refl
trees_at (e ∷ es) = ap (λ ps. named_tree e ∷ ps) (trees_at es)

-- it has the fields that were copied
pub copied_fields : {E : Type 0} (made es : List (RcStr Global × Expr Unit)) (q : Result (BTreeMap (RcStr Global) (Expr Unit) Global) E)
    → map named_tree made ≡ map named_tree es
    → IsStrictlySortedBy (λ x y. text_cmp (rc_str_bytes x) (rc_str_bytes y)) (keys_of es)
    → IfOk q (λ m. by_names m.entries ≡ in_order (by_names made))
    → IfOk q (λ m. map named_tree m.entries ≡ map named_tree es)
copied_fields made es (Ok m) h s e = trees_at m.entries ∙ ap (map tree_at) (same_fields m.entries made (copies_rise made es h s) e) ∙ sym (trees_at made) ∙ h
copied_fields made es (Err x) h s e = tt
