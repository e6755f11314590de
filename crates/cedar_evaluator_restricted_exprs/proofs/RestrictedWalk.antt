-- What stands in a restricted call, set or record is restricted.
use Rattle.std.proofs.Common.{◌≡◌, ◌&&◌, Bool, true, false, List, [], ◌∷◌, ◌++◌, map, Option, Some, None, refl, sym, ap, ◌∙◌}
use Rattle.std.specs.Prelude.{is_none}
use Rattle.std.specs.Map.{values_of}
use Rattle.std.specs.Option.{option_or}
use Rattle.std.specs.declared.alloc.Global.{Global}
use Rattle.std.specs.declared.rc.RcStr.{RcStr}
use Rattle.cedar_expr_model.specs.Builder.{trees, tree_fields}
use Rattle.cedar_expr_model.specs.Lists.{first_found}
use Rattle.cedar_expr_model.specs.Parts.{subexpressions, subexpressions_among, subexpressions_in_fields}
use Rattle.cedar_expr_model.specs.Restricted.{is_restricted, feature_here}
use Rattle.cedar_expr_model.specs.Tree.{Tree}
use Rattle.cedar_expr_trees.specs.Trees.{tree_of, named, field_trees}
use Rattle.cedar_expr_trees.specs.declared.expr.Expr.{Expr}
use Rattle.cedar_evaluator_restricted_exprs.specs.Restricted.{are_restricted, have_restricted}

none_in : List Tree → Bool
none_in ts = is_none (first_found feature_here ts)

both : (a b : Bool) → (a && b) ≡ true → (a ≡ true) × (b ≡ true)
both true true h = (refl, refl)
both true false h = absurd (cc)
both false b h = absurd (cc)

found_first : {B : Type 0} (o p : Option B) → is_none (option_or o p) ≡ (is_none o && is_none p)
found_first None p = refl
found_first (Some b) p = refl

none_joined : {A B : Type 0} (f : A → Option B) (xs ys : List A) → is_none (first_found f (xs ++ ys)) ≡ (is_none (first_found f xs) && is_none (first_found f ys))
none_joined f [] ys = refl
none_joined f (x ∷ xs) ys = found_first (f x) (first_found f (xs ++ ys)) ∙ ap (λ b. is_none (f x) && b) (none_joined f xs ys) ∙ go (is_none (f x)) (is_none (first_found f xs)) (is_none (first_found f ys)) ∙ ap (λ b. b && is_none (first_found f ys)) (sym (found_first (f x) (first_found f xs)))
  where
    go : (a b c : Bool) → (a && (b && c)) ≡ ((a && b) && c)
    go true b c = refl
    go false b c = refl

-- the first of several, and the others
pub apart : (t : Tree) (ts : List Tree) → are_restricted (t ∷ ts) ≡ true → (is_restricted t ≡ true) × (are_restricted ts ≡ true)
apart t ts h = both _ _ (sym (none_joined feature_here (subexpressions t) (subexpressions_among (trees ts))) ∙ h)

-- fields are restricted where their expressions are
pub of_fields : (es : List (RcStr Global × Expr Unit)) → have_restricted es ≡ are_restricted (map (tree_of {T = Unit}) (values_of es))
of_fields [] = refl
of_fields (e ∷ es) =
    none_joined feature_here (subexpressions (tree_of {T = Unit} e.1)) (subexpressions_in_fields (tree_fields (named (field_trees es))))
    ∙ ap (λ b. is_none (first_found feature_here (subexpressions (tree_of {T = Unit} e.1))) && b) (of_fields es)
    ∙ sym (none_joined feature_here (subexpressions (tree_of {T = Unit} e.1)) (subexpressions_among (trees (map (tree_of {T = Unit}) (values_of es)))))
