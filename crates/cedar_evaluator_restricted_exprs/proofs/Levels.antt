-- One level of an evaluation.
use Rattle.std.proofs.Common.{◌≡◌, ◌-◌, ◌<◌, ℕ, zero, suc, true, refl, sym, ap, ◌∙◌, subst, arith}
use Rattle.cedar_expr_model.specs.Tree.{Tree}
use Rattle.cedar_evaluator_model.specs.Scope.{Scope}
use Rattle.cedar_evaluator_model.specs.Evaluation.{evaluated, node}
use Rattle.cedar_evaluator_restricted_exprs.specs.Lefts.{is_stopped}

-- at the limit nothing is left
pub at_limit : (s : Scope) (n : ℕ) (t : Tree) → n ≡ 0 → is_stopped (evaluated s n t) ≡ true
at_limit s n t h = subst (λ m. is_stopped (evaluated s m t) ≡ true) (sym h) refl

-- within a limit that isn't zero one level is what is left
pub one_level : (s : Scope) (n : ℕ) (t u : Tree) → 0 < n → u ≡ t → evaluated s n t ≡ node s (evaluated s (n - 1)) u
one_level s zero t u h e = absurd (omega arith)
one_level s (suc n) t u h e =
    let less : suc n - 1 ≡ n = omega arith in
    sym (ap (λ m. node s (evaluated s m) u) less ∙ ap (node s (evaluated s n)) e)
