use Rattle.std.proofs.Common.{rules, ◌≡◌, subst, to_z, of_z, w64}
use Rattle.cedar_expr_leaves.specs.Operators.{binary_op_of}
use Rattle.cedar_expr_model.specs.Made.{made_prim}
use Rattle.cedar_expr_model.specs.Value.{long}
use Rattle.cedar_evaluator_model.specs.Scope.{Scope}
use Rattle.cedar_evaluator_model.specs.Steps.{combined_left}
use Rattle.cedar_evaluator_core.specs.Lent.{Lends}
use Rattle.cedar_evaluator_core.proofs.Lent.{numbers_lent}
use Rattle.cedar_evaluator_core.proofs.lending.binary.Goals as goal

pub returns-in-Long-Long : goal.returns-in-Long-Long
returns-in-Long-Long c =
    let x = binary_op_of c.args.op in
    let m : to_z w64 (of_z w64 c.in-Long-Long.m) ≡ c.in-Long-Long.m = search rules in
    let n : to_z w64 (of_z w64 c.in-Long-Long.n) ≡ c.in-Long-Long.n = search rules in
    numbers_lent x c.args.a c.args.b c.in-Long-Long.m c.in-Long-Long.n c.of_numbers.result c.in-Long-Long.is-0 c.in-Long-Long.is-1
    (subst (λ k. (s : Scope) → Lends (combined_left s x (made_prim (long k)) (made_prim (long c.in-Long-Long.n))) c.of_numbers.result) m
    (subst (λ k. (s : Scope) → Lends (combined_left s x (made_prim (long (to_z w64 (of_z w64 c.in-Long-Long.m)))) (made_prim (long k))) c.of_numbers.result) n c.of_numbers.ensures))
