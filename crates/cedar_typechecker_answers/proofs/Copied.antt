-- Copies of expressions one after the other: those made so far, and then the rest.
use Rattle.std.proofs.Common.{◌≡◌, ℕ, suc, ◌<◌, ◌+◌, true, List, [], ◌∷◌, ◌++◌, length, drop, get_or, map, refl, sym, ap, ◌∙◌, append_assoc, append-nil, drop-cons, drop_of_length-le, ◌≤◌, arith}
use Rattle.std.proofs.lemmas.List.{map-append}
use Rattle.std.specs.Rc.{rc_str_bytes}
use Rattle.std.specs.List.Sorted.{IsStrictlySortedBy}
use Rattle.std.specs.Map.{keys_of}
use Rattle.std.specs.declared.alloc.Global.{Global}
use Rattle.std.specs.declared.rc.RcStr.{RcStr}
use Rattle.cedar_expr_model.specs.Builder.{trees, tree_fields}
use Rattle.cedar_expr_model.specs.Lists.{rises}
use Rattle.cedar_expr_model.specs.Order.{text_cmp}
use Rattle.cedar_expr_model.specs.Records.{names_rise}
use Rattle.cedar_expr_values.proofs.Ascending.{names_ascend}
use Rattle.cedar_expr_trees.specs.declared.expr.Expr.{Expr}
use Rattle.cedar_expr_trees.specs.Trees.{tree_of, named, field_trees}
use Rattle.cedar_typechecker_model.specs.Typed.{blank, blanks, field_blanks, marks}
use Rattle.cedar_typechecker_answers.specs.Marked.{rows, named_tree}

module _ {A B C : Type 0} (f : A → C) (h : B → C) (all : List C) where
  abbrev pub Gathered : List A → List B → Type 0
  Gathered made rest = map f made ++ map h rest ≡ all

  pub one_more : (made more : List A) (rest later : List B) (a : A) (b : B) → Gathered made rest → rest ≡ b ∷ later → more ≡ made ++ a ∷ [] → f a ≡ h b → Gathered more later
  one_more made more rest later a b was r m e =
      ap (λ xs. map f xs ++ map h later) m
      ∙ ap (λ xs. xs ++ map h later) (map-append f made (a ∷ []))
      ∙ append_assoc (map f made) (f a ∷ []) (map h later)
      ∙ ap (λ c. map f made ++ c ∷ map h later) e
      ∙ ap (λ xs. map f made ++ map h xs) (sym r)
      ∙ was

  pub all_made : (made : List A) (rest : List B) → Gathered made rest → rest ≡ [] → map f made ≡ all
  all_made made rest was r = sym (append-nil (map f made)) ∙ ap (λ xs. map f made ++ map h xs) (sym r) ∙ was

pub drop_here : {A : Type 0} (es : List A) (i : ℕ) (e d : A) → i < length es → e ≡ get_or es i d → drop i es ≡ e ∷ drop (i + 1) es
drop_here es i e d below at = let next : suc i ≡ i + 1 = omega arith in drop-cons es i d below ∙ (λ j. sym at j ∷ drop (next j) es)

pub none_left : {A : Type 0} (es : List A) (i : ℕ) → length es ≤ i → drop i es ≡ []
none_left es i past = drop_of_length-le es past

-- what typing doesn't reach, of expressions in a row and of fields
pub blanks_are : (es : List (Expr Unit)) → rows (map (λ e. blank (tree_of e)) es) ≡ blanks (trees (map tree_of es))
blanks_are [] = refl
blanks_are (e ∷ es) = ap (marks (blank (tree_of e))) (blanks_are es)

pub field_blanks_are : (es : List (RcStr Global × Expr Unit)) → rows (map (λ e. blank (tree_of e.1)) es) ≡ field_blanks (tree_fields (named (field_trees es)))
field_blanks_are [] = refl
field_blanks_are (e ∷ es) = ap (marks (blank (tree_of e.1))) (field_blanks_are es)

-- fields by their names and trees
pub named_trees : {T : Type 0} (es : List (RcStr Global × Expr T)) → named (field_trees es) ≡ map named_tree es
named_trees [] = refl
named_trees (e ∷ es) = ap (λ ps. named_tree e ∷ ps) (named_trees es)

names_of_trees : {T : Type 0} (es : List (RcStr Global × Expr T)) → map (λ p. p.0) (named es) ≡ map (λ p. p.0) (map named_tree es)
names_of_trees [] = refl
names_of_trees (e ∷ es) = ap (λ ns. rc_str_bytes e.0 ∷ ns) (names_of_trees es)

-- the names of copies rise as those of the originals do
pub copies_rise : {T U : Type 0} (made : List (RcStr Global × Expr T)) (es : List (RcStr Global × Expr U)) → map named_tree made ≡ map named_tree es → IsStrictlySortedBy (λ x y. text_cmp (rc_str_bytes x) (rc_str_bytes y)) (keys_of es) → names_rise (named made) ≡ true
copies_rise made es e s = ap (rises text_cmp) (names_of_trees made ∙ ap (map (λ p. p.0)) e ∙ sym (names_of_trees es)) ∙ names_ascend es s
