-- What is left of an unknown that a function gives.
use Rattle.std.proofs.Common.{◌≡◌, ◌&&◌, true, Option, Some, None, is_none, refl, sym, ap, ◌∙◌}
use Rattle.cedar_expr_model.specs.Parts.{Unknown}
use Rattle.cedar_expr_model.specs.Tree.{CoreType, Tree, unknown}
use Rattle.cedar_expr_model.proofs.Lists.{both_hold}
use Rattle.cedar_evaluator_model.specs.Scope.{leaves_unknown, residual}
use Rattle.cedar_evaluator_model.specs.Steps.{answer_left}

none_is : {A : Type 0} (o : Option A) → is_none o ≡ true → o ≡ None
none_is None h = refl
none_is (Some a) h = absurd (cc)

-- an unknown that is left has no annotation
pub left_alone : (u : Unknown) (r : Option CoreType) (t : Tree) → (is_none r && is_none u.annotation) ≡ true → t ≡ unknown u.name u.annotation → answer_left (leaves_unknown u.name) ≡ residual t
left_alone u r t h e = ap residual (ap (unknown u.name) (sym (none_is u.annotation (both_hold (is_none r) (is_none u.annotation) h).1)) ∙ sym e)
