-- Reading expressions from a place of a list on.
use Rattle.std.proofs.Common.{◌≡◌, ℕ, suc, ◌<◌, ◌≤◌, ◌+◌, List, [], ◌∷◌, ◌++◌, length, get_or, drop, map, Option, Some, None, option_map, add-one, drop-cons, refl, sym, ap, ◌∙◌}
use Rattle.std.proofs.Math.ListN.{drop_of_length-le}
use Rattle.std.proofs.lemmas.List.{map-append}
use Rattle.serde_json.specs.View.{view}
use Rattle.serde_json.specs.declared.value.Value.{Value}
use Rattle.cedar_expr_model.specs.Tree.{Tree}
use Rattle.cedar_expr_model.specs.Lists.{all_given}
use Rattle.cedar_expr_trees.specs.declared.expr.Expr.{Expr}
use Rattle.cedar_expr_trees.specs.Trees.{tree_of}
use Rattle.cedar_gate_model.specs.ReadingExpression.{Version, expression_read}
use Rattle.cedar_gate_expressions.specs.Parts.{parts}
use Rattle.cedar_gate_expressions.proofs.Gathered.{then_rest, one_more}

pub here : (xs : List Value) (i : ℕ) (v : Value) → i < length xs → v ≡ get_or xs i v → drop i xs ≡ v ∷ drop (i + 1) xs
here xs i v h e = rw add-one (drop-cons xs i v h ∙ ap (λ y. y ∷ drop (suc i) xs) (sym e))

pub next_at : {T : Type 0} (k : Version) (done : List (Expr T)) (x : Expr T) (v : Value) (items : List Value) (i : ℕ) → i < length items → v ≡ get_or items i v → expression_read k (view v) ≡ Some (tree_of x)
    → then_rest (map tree_of (done ++ x ∷ [])) (all_given (λ p. p.tree) (parts k (drop (i + 1) items))) ≡ then_rest (map tree_of done) (all_given (λ p. p.tree) (parts k (drop i items)))
next_at k done x v items i h e r = let s = here items i v h e in rw (s, r, map-append) (one_more (map tree_of done) (tree_of x) (all_given (λ p. p.tree) (parts k (drop (i + 1) items))))

nothing_after : (xs : List Tree) → xs ++ [] ≡ xs
nothing_after [] = refl
nothing_after (x ∷ xs) = ap (λ ys. x ∷ ys) (nothing_after xs)

pub ended : (k : Version) (done : List Tree) (items : List Value) (i : ℕ) → length items ≤ i → then_rest done (all_given (λ p. p.tree) (parts k (drop i items))) ≡ Some done
ended k done items i h = let e : drop i items ≡ [] = drop_of_length-le items h in rw e (ap Some (nothing_after done))
