-- Copies of groups, and of errors.
use Rattle.std.proofs.Common.{◌≡◌, List, map}
use Rattle.std.specs.List.{AllZip}
use Rattle.std.specs.declared.alloc.Global.{Global}
use Rattle.std.specs.declared.rc.Rc.{Rc}
use Rattle.cedar_expr_trees.specs.Trees.{tree_of}
use Rattle.cedar_expr_trees.specs.declared.expr.Expr.{Expr}
use Rattle.cedar_store_parts.specs.Parts.{id_text, annotations_of}
use Rattle.cedar_store_parts.specs.declared.annotation.Annotations.{Annotations}
use Rattle.cedar_store_parts.specs.declared.policy_id.PolicyID.{PolicyID}
use Rattle.cedar_evaluator_errors.proofs.Copied.{copies_are}
use Rattle.cedar_evaluator_requests.specs.Copies.{IsSamePolicyError}
use Rattle.cedar_evaluator_requests.specs.Views.{error_of}
use Rattle.cedar_evaluator_requests.specs.declared.response.AuthorizationError.{AuthorizationError}
use Rattle.cedar_evaluator_requests.specs.Groups.{noted_seen, false_seen, residual_seen, state_of}
use Rattle.cedar_evaluator_requests.specs.declared.groups.ErrorState.{ErrorState}

abbrev NotedAlike : PolicyID × Rc Annotations Global → PolicyID × Rc Annotations Global → Type 0
NotedAlike p q = (id_text q.0 ≡ id_text p.0) × ((q.1).value ≡ (p.1).value)

pub trues_copied : (xs ys : List (PolicyID × Rc Annotations Global)) → AllZip NotedAlike xs ys → map noted_seen ys ≡ map noted_seen xs
trues_copied xs ys h = copies_are noted_seen NotedAlike (λ p q k i. record { id = k.0 i; annotations = annotations_of (k.1 i) }) xs ys h

abbrev FalseAlike : PolicyID × (ErrorState × Rc Annotations Global) → PolicyID × (ErrorState × Rc Annotations Global) → Type 0
FalseAlike p q = (id_text q.0 ≡ id_text p.0) × ((q.1.0 ≡ p.1.0) × ((q.1.1).value ≡ (p.1.1).value))

pub falses_copied : (xs ys : List (PolicyID × (ErrorState × Rc Annotations Global))) → AllZip FalseAlike xs ys → map false_seen ys ≡ map false_seen xs
falses_copied xs ys h = copies_are false_seen FalseAlike (λ p q k i. (record { id = k.0 i; annotations = annotations_of ((k.1).1 i) }, state_of ((k.1).0 i))) xs ys h

abbrev LeftAlike : PolicyID × (Rc (Expr Unit) Global × Rc Annotations Global) → PolicyID × (Rc (Expr Unit) Global × Rc Annotations Global) → Type 0
LeftAlike p q = (id_text q.0 ≡ id_text p.0) × (((q.1.0).value ≡ (p.1.0).value) × ((q.1.1).value ≡ (p.1.1).value))

pub residuals_copied : (xs ys : List (PolicyID × (Rc (Expr Unit) Global × Rc Annotations Global))) → AllZip LeftAlike xs ys → map residual_seen ys ≡ map residual_seen xs
residuals_copied xs ys h = copies_are residual_seen LeftAlike (λ p q k i. (record { id = k.0 i; annotations = annotations_of ((k.1).1 i) }, tree_of ((k.1).0 i))) xs ys h

pub errors_copied : (xs ys : List AuthorizationError) → AllZip IsSamePolicyError xs ys → map error_of ys ≡ map error_of xs
errors_copied xs ys h = copies_are error_of IsSamePolicyError (λ e copy k. k.seen) xs ys h
