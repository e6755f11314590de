-- Verdicts and errors by what evaluations tell.
use Rattle.std.proofs.Common.{◌≡◌, Bool, true, false, List, [], ◌∷◌, ◌++◌, map, Some, refl, sym, ap, ◌∙◌}
use Rattle.std.proofs.lemmas.List.{map-append, append-nil}
use Rattle.std.specs.List.{cons_option}
use Rattle.cedar_expr_model.specs.Tree.{Tree}
use Rattle.cedar_store_model.specs.Policy as model
use Rattle.cedar_store_parts.specs.Parts.{id_text}
use Rattle.cedar_store_parts.specs.declared.policy_id.PolicyID.{PolicyID}
use Rattle.cedar_evaluator_model.specs.Scope.{Stop, limit, Left, value_left, residual, stopped}
use Rattle.cedar_evaluator_model.specs.Steps.{on_value, truth_wanted, truth_left}
use Rattle.cedar_evaluator_model.specs.Response.{ResponseError}
use Rattle.cedar_evaluator_errors.specs.Outcomes.{is_memory, cause_of}
use Rattle.cedar_evaluator_errors.specs.declared.err.EvaluationError.{EvaluationError}
use Rattle.cedar_evaluator_errors.specs.declared.err.EvaluationError.TheVariants.{OutOfMemory, EntityDoesNotExist, EntityAttrDoesNotExist, RecordAttrDoesNotExist, FailedExtensionFunctionLookup, TypeError, WrongNumArguments, IntegerOverflow, ZeroDivisor, UnlinkedSlot, FailedExtensionFunctionExecution, NonValue, RecursionLimit}
use Rattle.cedar_evaluator_core.specs.Evaluators.{left_by}
use Rattle.cedar_evaluator_requests.specs.Views.{error_of}
use Rattle.cedar_evaluator_requests.specs.declared.response.AuthorizationError.TheVariants.{PolicyEvaluationError}
use Rattle.cedar_gate_sessions.specs.Answers.{if_erring}
use Rattle.cedar_gate_sessions.specs.Outcomes.{error_kind}
use Rattle.cedar_gate_sessions.specs.Verdicts.{kind_of}
use Rattle.cedar_gate_sessions.specs.declared.kinds.Verdict.TheVariants.{Satisfied, Not}

-- a residual with its slots bound is a verdict of the same kind
pub kind_same : (f : Tree → Tree) (l : Left) → kind_of (on_value l truth_wanted residual) ≡ kind_of (on_value l truth_wanted (λ r. residual (f r)))
kind_same f (value_left m) = refl
kind_same f (residual r) = refl
kind_same f (stopped s) = refl

pub kind_true : (l : Left) (b : Bool) → l ≡ truth_left b → b ≡ true → Satisfied ≡ kind_of l
kind_true l b h k = sym (ap kind_of (h ∙ ap truth_left k))

pub kind_false : (l : Left) (b : Bool) → l ≡ truth_left b → b ≡ false → Not ≡ kind_of l
kind_false l b h k = sym (ap kind_of (h ∙ ap truth_left k))

-- the kind of a verdict, by the error
pub kind_told : (l : Left) (e : EvaluationError) → is_memory e ≡ false → ((other : Stop) → is_memory e ≡ false → l ≡ left_by other e) → error_kind e ≡ kind_of l
kind_told l OutOfMemory m h = cc
kind_told l (EntityDoesNotExist x) m h = sym (ap kind_of (h limit m))
kind_told l (EntityAttrDoesNotExist x) m h = sym (ap kind_of (h limit m))
kind_told l (RecordAttrDoesNotExist x) m h = sym (ap kind_of (h limit m))
kind_told l (FailedExtensionFunctionLookup x) m h = sym (ap kind_of (h limit m))
kind_told l (TypeError x) m h = sym (ap kind_of (h limit m))
kind_told l (WrongNumArguments x) m h = sym (ap kind_of (h limit m))
kind_told l (IntegerOverflow x) m h = sym (ap kind_of (h limit m))
kind_told l (ZeroDivisor x) m h = sym (ap kind_of (h limit m))
kind_told l (UnlinkedSlot x) m h = sym (ap kind_of (h limit m))
kind_told l (FailedExtensionFunctionExecution x) m h = sym (ap kind_of (h limit m))
kind_told l (NonValue x) m h = sym (ap kind_of (h limit m))
kind_told l (RecursionLimit x) m h = sym (ap kind_of (h limit m))

-- the error of a policy, by the error
error_told : (p : model.Policy) (l : Left) (e : EvaluationError) → is_memory e ≡ false → ((other : Stop) → is_memory e ≡ false → l ≡ left_by other e) → Some (record { id = p.id; cause = cause_of e }) ≡ if_erring p l
error_told p l OutOfMemory m h = cc
error_told p l (EntityDoesNotExist x) m h = sym (ap (if_erring p) (h limit m))
error_told p l (EntityAttrDoesNotExist x) m h = sym (ap (if_erring p) (h limit m))
error_told p l (RecordAttrDoesNotExist x) m h = sym (ap (if_erring p) (h limit m))
error_told p l (FailedExtensionFunctionLookup x) m h = sym (ap (if_erring p) (h limit m))
error_told p l (TypeError x) m h = sym (ap (if_erring p) (h limit m))
error_told p l (WrongNumArguments x) m h = sym (ap (if_erring p) (h limit m))
error_told p l (IntegerOverflow x) m h = sym (ap (if_erring p) (h limit m))
error_told p l (ZeroDivisor x) m h = sym (ap (if_erring p) (h limit m))
error_told p l (UnlinkedSlot x) m h = sym (ap (if_erring p) (h limit m))
error_told p l (FailedExtensionFunctionExecution x) m h = sym (ap (if_erring p) (h limit m))
error_told p l (NonValue x) m h = sym (ap (if_erring p) (h limit m))
error_told p l (RecursionLimit x) m h = sym (ap (if_erring p) (h limit m))

-- an error that is put at the end
pub error_put : {E R : Type 0} (seen : E → R) (old new : List E) (x : E) (y : List R) → new ≡ old ++ x ∷ [] → seen x ∷ [] ≡ y → map seen new ≡ map seen old ++ y
error_put seen old new x y h k = ap (map seen) h ∙ map-append seen old (x ∷ []) ∙ ap (λ z. map seen old ++ z) k

-- it is the policy's
pub error_is : (p : model.Policy) (id : PolicyID) (e : EvaluationError) (l : Left) → id_text id ≡ p.id → is_memory e ≡ false → ((other : Stop) → is_memory e ≡ false → l ≡ left_by other e)
    → error_of (PolicyEvaluationError id e) ∷ [] ≡ cons_option (if_erring p l) []
error_is p id e l k m h = (λ i. record { id = k i; cause = cause_of e } ∷ []) ∙ ap (λ o. cons_option o []) (error_told p l e m h)

-- a policy that is true or false doesn't err
pub no_error : (seen : List ResponseError) (p : model.Policy) (l : Left) (b : Bool) → l ≡ truth_left b → seen ≡ seen ++ cons_option (if_erring p l) []
no_error seen p l b h = sym (append-nil seen) ∙ ap (λ x. seen ++ cons_option (if_erring p x) []) (sym h)
