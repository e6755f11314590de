-- A policy put in its group.
use Rattle.std.proofs.Common.{◌≡◌, List, [], ◌∷◌, ◌++◌, Some, None, refl, sym, ap, ◌∙◌}
use Rattle.std.proofs.lemmas.List.{append-nil}
use Rattle.cedar_expr_model.specs.Tree.{Tree}
use Rattle.cedar_store_model.specs.Policy.{Effect, permit, forbid}
use Rattle.cedar_evaluator_model.specs.Response.{Noted, ErrorState, ResponseError, Response}
use Rattle.cedar_evaluator.specs.Gathering.{with_true, with_false, with_residual, with_error, with_parts}

-- the group takes what is put in it, and the others stay
pub true_put : (r : Response) (e : Effect) (n : Noted) → with_true r e n ≡ with_parts r e (Some n) None None None
true_put r permit n = λ i. record r { true_permits = r.true_permits ++ n ∷ []; false_permits = sym (append-nil r.false_permits) i; residual_permits = sym (append-nil r.residual_permits) i; true_forbids = sym (append-nil r.true_forbids) i; false_forbids = sym (append-nil r.false_forbids) i; residual_forbids = sym (append-nil r.residual_forbids) i; errors = sym (append-nil r.errors) i }
true_put r forbid n = λ i. record r { true_forbids = r.true_forbids ++ n ∷ []; false_permits = sym (append-nil r.false_permits) i; residual_permits = sym (append-nil r.residual_permits) i; true_permits = sym (append-nil r.true_permits) i; false_forbids = sym (append-nil r.false_forbids) i; residual_forbids = sym (append-nil r.residual_forbids) i; errors = sym (append-nil r.errors) i }

pub false_put : (r : Response) (e : Effect) (n : Noted × ErrorState) → with_false r e n ≡ with_parts r e None (Some n) None None
false_put r permit n = λ i. record r { false_permits = r.false_permits ++ n ∷ []; true_permits = sym (append-nil r.true_permits) i; residual_permits = sym (append-nil r.residual_permits) i; true_forbids = sym (append-nil r.true_forbids) i; false_forbids = sym (append-nil r.false_forbids) i; residual_forbids = sym (append-nil r.residual_forbids) i; errors = sym (append-nil r.errors) i }
false_put r forbid n = λ i. record r { false_forbids = r.false_forbids ++ n ∷ []; false_permits = sym (append-nil r.false_permits) i; residual_permits = sym (append-nil r.residual_permits) i; true_forbids = sym (append-nil r.true_forbids) i; true_permits = sym (append-nil r.true_permits) i; residual_forbids = sym (append-nil r.residual_forbids) i; errors = sym (append-nil r.errors) i }

pub residual_put : (r : Response) (e : Effect) (n : Noted × Tree) → with_residual r e n ≡ with_parts r e None None (Some n) None
residual_put r permit n = λ i. record r { residual_permits = r.residual_permits ++ n ∷ []; true_permits = sym (append-nil r.true_permits) i; false_permits = sym (append-nil r.false_permits) i; true_forbids = sym (append-nil r.true_forbids) i; false_forbids = sym (append-nil r.false_forbids) i; residual_forbids = sym (append-nil r.residual_forbids) i; errors = sym (append-nil r.errors) i }
residual_put r forbid n = λ i. record r { residual_forbids = r.residual_forbids ++ n ∷ []; false_permits = sym (append-nil r.false_permits) i; residual_permits = sym (append-nil r.residual_permits) i; true_forbids = sym (append-nil r.true_forbids) i; false_forbids = sym (append-nil r.false_forbids) i; true_permits = sym (append-nil r.true_permits) i; errors = sym (append-nil r.errors) i }

pub erred_put : (r : Response) (e : Effect) (n : Noted × ErrorState) (x : ResponseError) → with_false (with_error r x) e n ≡ with_parts r e None (Some n) None (Some x)
erred_put r permit n x = λ i. record r { false_permits = r.false_permits ++ n ∷ []; errors = r.errors ++ x ∷ []; true_permits = sym (append-nil r.true_permits) i; residual_permits = sym (append-nil r.residual_permits) i; true_forbids = sym (append-nil r.true_forbids) i; false_forbids = sym (append-nil r.false_forbids) i; residual_forbids = sym (append-nil r.residual_forbids) i }
erred_put r forbid n x = λ i. record r { false_forbids = r.false_forbids ++ n ∷ []; errors = r.errors ++ x ∷ []; false_permits = sym (append-nil r.false_permits) i; residual_permits = sym (append-nil r.residual_permits) i; true_forbids = sym (append-nil r.true_forbids) i; true_permits = sym (append-nil r.true_permits) i; residual_forbids = sym (append-nil r.residual_forbids) i }
