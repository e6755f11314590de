-- What is gathered from an expression and from what is below it.
use Rattle.std.proofs.Common.{◌≡◌, List, [], ◌∷◌, ◌++◌, map, Result, Ok, Err, OnOk, Bor, sym, ap, ◌∙◌, append_assoc}
use Rattle.std.proofs.lemmas.List.{map-append}
use Rattle.cedar_expr_trees.specs.declared.expr.Expr.{Expr}
use Rattle.cedar_expr_trees.specs.Positions.{below, positions}

abbrev pub seen : {T : Type 0} → List (Bor (Expr T)) → List (Expr T)
seen es = map (λ e. e.now) es

-- behind an expression stands what is below it
pub with_below : {T A E : Type 0} (r : Result A E) (old mid new : List (Bor (Expr T))) (e : Bor (Expr T)) (es : List (Expr T)) → mid ≡ old ++ e ∷ [] → below e.now.expr_kind ≡ es → OnOk r (seen new ≡ seen mid ++ es) → OnOk r (seen new ≡ seen old ++ positions e.now)
with_below {T} (Ok x) old mid new e es m b h =
    h
    ∙ ap (λ ms. seen ms ++ es) m
    ∙ ap (λ ms. ms ++ es) (map-append (λ (x : Bor (Expr T)). x.now) old (e ∷ []))
    ∙ append_assoc (seen old) (e.now ∷ []) es
    ∙ ap (λ ys. seen old ++ (e.now ∷ ys)) (sym b)
with_below (Err x) old mid new e es m b h = h
