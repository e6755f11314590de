-- One level of an evaluation.
use Rattle.std.proofs.Common.{◌≡◌, ◌-◌, ◌<◌, ℕ, zero, suc, sym, ap, ◌∙◌, arith}
use Rattle.cedar_expr_model.specs.Tree.{Tree}
use Rattle.cedar_evaluator_model.specs.Scope.{Scope, limit, stopped}
use Rattle.cedar_evaluator_model.specs.Evaluation.{evaluated, node}

-- within a limit that isn't zero one level is what is left
pub one_level : (s : Scope) (n : ℕ) (t u : Tree) → 0 < n → u ≡ t → evaluated s n t ≡ node s (evaluated s (n - 1)) u
one_level s zero t u h e = absurd (omega arith)
one_level s (suc n) t u h e =
    let less : suc n - 1 ≡ n = omega arith in
    sym (ap (λ m. node s (evaluated s m) u) less ∙ ap (node s (evaluated s n)) e)

-- within the limit zero nothing is
pub at_zero : (s : Scope) (n : ℕ) (t : Tree) → n ≡ 0 → evaluated s n t ≡ stopped limit
at_zero s n t e = ap (λ m. evaluated s m t) e
