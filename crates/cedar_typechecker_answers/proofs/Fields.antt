-- Fields whose names rise, and the map that is made of them.
use Rattle.std.proofs.Common.{◌≡◌, true, List, [], ◌∷◌, map, Option, Result, Ok, Err, IfOk, refl, sym, ap, ◌∙◌}
use Rattle.std.specs.List.Sorted.{IsStrictlySortedBy}
use Rattle.std.specs.Map.{keys_of}
use Rattle.std.specs.Rc.{rc_str_bytes}
use Rattle.std.specs.declared.alloc.Global.{Global}
use Rattle.std.specs.declared.collections.BTreeMap.{BTreeMap}
use Rattle.std.specs.declared.rc.RcStr.{RcStr}
use Rattle.cedar_expr_model.specs.Name.{Text}
use Rattle.cedar_expr_model.specs.Order.{text_cmp}
use Rattle.cedar_expr_model.specs.Records.{in_order, names_rise}
use Rattle.cedar_expr_model.specs.Tree.{Tree}
use Rattle.cedar_expr_model.proofs.Ordering.{in_order_stays}
use Rattle.cedar_expr_trees.specs.declared.expr.Expr.{Expr}
use Rattle.cedar_expr_trees.specs.Trees.{tree_of, named, field_trees}
use Rattle.cedar_schema_types.specs.declared.types.Type.{«Type» as CodeType}
use Rattle.cedar_typechecker_model.specs.Typed.{Marks, blank}
use Rattle.cedar_typechecker_answers.specs.Marked.{marks_of, named_tree}
use Rattle.cedar_typechecker_answers.proofs.Copied.{copies_rise, named_trees}

-- the map of fields whose names rise has these fields
pub same_fields : {A : Type 0} (es ps : List (RcStr Global × A)) → names_rise (named ps) ≡ true → named es ≡ in_order (named ps) → named es ≡ named ps
same_fields es ps h e = e ∙ in_order_stays (named ps) h

abbrev tree_at : {T : Type 0} → Text × Expr T → Text × Tree
tree_at p = (p.0, tree_of p.1)

trees_at : {T : Type 0} (es : List (RcStr Global × Expr T)) → named (field_trees es) ≡ map tree_at (named es)
trees_at [] = refl
trees_at (e ∷ es) = ap (λ ps. (rc_str_bytes e.0, tree_of e.1) ∷ ps) (trees_at es)

same_trees : {T : Type 0} (es ps : List (RcStr Global × Expr T)) → named es ≡ named ps → named (field_trees es) ≡ named (field_trees ps)
same_trees es ps e = trees_at es ∙ ap (map tree_at) e ∙ sym (trees_at ps)

abbrev marks_at : Text × Expr (Option CodeType) → Marks
marks_at p = marks_of p.1

marks_named : (es : List (RcStr Global × Expr (Option CodeType))) → map (λ e. marks_of e.1) es ≡ map marks_at (named es)
marks_named [] = refl
marks_named (e ∷ es) = ap (λ ms. marks_of e.1 ∷ ms) (marks_named es)

same_marks : (es ps : List (RcStr Global × Expr (Option CodeType))) → named es ≡ named ps → map (λ e. marks_of e.1) es ≡ map (λ e. marks_of e.1) ps
same_marks es ps e = marks_named es ∙ ap (map marks_at) e ∙ sym (marks_named ps)

-- the map of copies
module _ {E : Type 0} (made : List (RcStr Global × Expr (Option CodeType))) (es : List (RcStr Global × Expr Unit)) where
  pub trees_in_map : (q : Result (BTreeMap (RcStr Global) (Expr (Option CodeType)) Global) E)
      → map named_tree made ≡ map named_tree es
      → IsStrictlySortedBy (λ x y. text_cmp (rc_str_bytes x) (rc_str_bytes y)) (keys_of es)
      → IfOk q (λ m. named m.entries ≡ in_order (named made))
      → IfOk q (λ m. map named_tree m.entries ≡ map named_tree es)
  trees_in_map (Ok m) h s e = sym (named_trees m.entries) ∙ same_trees m.entries made (same_fields m.entries made (copies_rise made es h s) e) ∙ named_trees made ∙ h
  trees_in_map (Err x) h s e = tt

  pub marks_in_map : (q : Result (BTreeMap (RcStr Global) (Expr (Option CodeType)) Global) E)
      → map named_tree made ≡ map named_tree es
      → map (λ e. marks_of e.1) made ≡ map (λ e. blank (tree_of e.1)) es
      → IsStrictlySortedBy (λ x y. text_cmp (rc_str_bytes x) (rc_str_bytes y)) (keys_of es)
      → IfOk q (λ m. named m.entries ≡ in_order (named made))
      → IfOk q (λ m. map (λ e. marks_of e.1) m.entries ≡ map (λ e. blank (tree_of e.1)) es)
  marks_in_map (Ok m) h b s e = same_marks m.entries made (same_fields m.entries made (copies_rise made es h s) e) ∙ b
  marks_in_map (Err x) h b s e = tt
