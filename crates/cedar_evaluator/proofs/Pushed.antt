-- What a group holds once something is put at its end.
use Rattle.std.proofs.Common.{◌≡◌, List, [], ◌∷◌, ◌++◌, map, ap, ◌∙◌}
use Rattle.std.proofs.lemmas.List.{map-append}
use Rattle.cedar_expr_model.specs.Tree.{Tree}
use Rattle.cedar_store_model.specs.Policy.{Effect, permit, forbid}
use Rattle.cedar_evaluator_model.specs.Response.{Noted, ErrorState, ResponseError, Response}
use Rattle.cedar_evaluator.specs.Gathering.{with_true, with_false, with_residual, with_error}

pub pushed : {A M : Type 0} (seen : A → M) (es fs : List A) (e : A) (m : M) → fs ≡ es ++ e ∷ [] → seen e ≡ m → map seen fs ≡ map seen es ++ m ∷ []
pushed seen es fs e m h k = ap (map seen) h ∙ map-append seen es (e ∷ []) ∙ ap (λ x. map seen es ++ x ∷ []) k

-- in a group of its effect, and in the list of errors
module _ (r : Response) (e : Effect) where
  pub true_permit : (n : Noted) (ns : List Noted) → ns ≡ r.true_permits ++ n ∷ [] → permit ≡ e → record r { true_permits = ns } ≡ with_true r e n
  true_permit n ns h k = (λ i. record r { true_permits = h i }) ∙ ap (λ x. with_true r x n) k

  pub true_forbid : (n : Noted) (ns : List Noted) → ns ≡ r.true_forbids ++ n ∷ [] → forbid ≡ e → record r { true_forbids = ns } ≡ with_true r e n
  true_forbid n ns h k = (λ i. record r { true_forbids = h i }) ∙ ap (λ x. with_true r x n) k

  pub false_permit : (n : Noted × ErrorState) (ns : List (Noted × ErrorState)) → ns ≡ r.false_permits ++ n ∷ [] → permit ≡ e → record r { false_permits = ns } ≡ with_false r e n
  false_permit n ns h k = (λ i. record r { false_permits = h i }) ∙ ap (λ x. with_false r x n) k

  pub false_forbid : (n : Noted × ErrorState) (ns : List (Noted × ErrorState)) → ns ≡ r.false_forbids ++ n ∷ [] → forbid ≡ e → record r { false_forbids = ns } ≡ with_false r e n
  false_forbid n ns h k = (λ i. record r { false_forbids = h i }) ∙ ap (λ x. with_false r x n) k

  pub residual_permit : (n : Noted × Tree) (ns : List (Noted × Tree)) → ns ≡ r.residual_permits ++ n ∷ [] → permit ≡ e → record r { residual_permits = ns } ≡ with_residual r e n
  residual_permit n ns h k = (λ i. record r { residual_permits = h i }) ∙ ap (λ x. with_residual r x n) k

  pub residual_forbid : (n : Noted × Tree) (ns : List (Noted × Tree)) → ns ≡ r.residual_forbids ++ n ∷ [] → forbid ≡ e → record r { residual_forbids = ns } ≡ with_residual r e n
  residual_forbid n ns h k = (λ i. record r { residual_forbids = h i }) ∙ ap (λ x. with_residual r x n) k

pub error_listed : (r : Response) (x : ResponseError) (es : List ResponseError) → es ≡ r.errors ++ x ∷ [] → record r { errors = es } ≡ with_error r x
error_listed r x es h = λ i. record r { errors = h i }
