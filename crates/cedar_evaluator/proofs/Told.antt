-- What is left of a policy, as it is told.
use Rattle.std.proofs.Common.{◌≡◌, Bool, true, false, refl, sym, ap, ◌∙◌}
use Rattle.cedar_expr_model.specs.Made.{Made, made_prim, made_set, made_record, made_extension}
use Rattle.cedar_expr_model.specs.Tree.{Tree}
use Rattle.cedar_expr_model.specs.Value.{truth, long, text, entity}
use Rattle.cedar_store_model.specs.Outcome.{overflow}
use Rattle.cedar_evaluator_model.specs.Scope.{Stop, fault, limit, Left, value_left, residual, stopped}
use Rattle.cedar_evaluator_model.specs.Steps.{on_value, truth_wanted, truth_left}
use Rattle.cedar_evaluator_model.specs.Response.{stops}
use Rattle.cedar_evaluator.specs.Verdicts.{with_residual, IsLeft}
use Rattle.cedar_evaluator.specs.declared.verdicts.Verdict.TheVariants.{True, False, Residual, Erred}
use Rattle.cedar_expr_trees.specs.Trees.{tree_of}
use Rattle.cedar_expr_trees.specs.declared.expr.Expr.{Expr}
use Rattle.cedar_evaluator_errors.specs.Outcomes.{is_memory, stop_or, cause_of}
use Rattle.cedar_evaluator_errors.specs.declared.err.EvaluationError.{EvaluationError}
use Rattle.cedar_evaluator_errors.specs.declared.err.EvaluationError.TheVariants.{OutOfMemory, EntityDoesNotExist, EntityAttrDoesNotExist, RecordAttrDoesNotExist, FailedExtensionFunctionLookup, TypeError, WrongNumArguments, IntegerOverflow, ZeroDivisor, UnlinkedSlot, FailedExtensionFunctionExecution, NonValue, RecursionLimit}

-- a truth value stays so
truth_stays : (f : Tree → Tree) (m : Made) → truth_wanted m ≡ with_residual f (truth_wanted m)
truth_stays f (made_prim (truth b)) = refl
truth_stays f (made_prim (long n)) = refl
truth_stays f (made_prim (text s)) = refl
truth_stays f (made_prim (entity u)) = refl
truth_stays f (made_set ms) = refl
truth_stays f (made_record fs) = refl
truth_stays f (made_extension n k g ps) = refl

-- a truth value is asked of what is left, and a residual becomes another
pub asked_then : (f : Tree → Tree) (l : Left) → on_value l truth_wanted (λ r. residual (f r)) ≡ with_residual f (on_value l truth_wanted residual)
asked_then f (value_left m) = truth_stays f m
asked_then f (residual r) = refl
asked_then f (stopped s) = refl

apart : (l : Left) → l ≡ stopped limit → l ≡ stopped (fault overflow) → ⊥
apart l h k = let e = sym h ∙ k in absurd (cc)

-- an error by which an evaluation stopped tells the stop
pub told_stop : (l : Left) (e : EvaluationError) → is_memory e ≡ false → ((other : Stop) → is_memory e ≡ false → l ≡ stopped (stop_or other e)) → cause_of e ≡ stops (stop_or limit e)
told_stop l OutOfMemory m h = refl
told_stop l (EntityDoesNotExist x) m h = refl
told_stop l (EntityAttrDoesNotExist x) m h = refl
told_stop l (RecordAttrDoesNotExist x) m h = refl
told_stop l (FailedExtensionFunctionLookup x) m h = refl
told_stop l (TypeError x) m h = refl
told_stop l (WrongNumArguments x) m h = refl
told_stop l (IntegerOverflow x) m h = refl
told_stop l (ZeroDivisor x) m h = refl
told_stop l (UnlinkedSlot x) m h = refl
told_stop l (FailedExtensionFunctionExecution x) m h = refl
told_stop l (NonValue x) m h = absurd (apart l (h limit m) (h (fault overflow) m))
told_stop l (RecursionLimit x) m h = refl

-- what a verdict tells
pub told_true : (f : Tree → Tree) (l : Left) (b : Bool) → l ≡ truth_left b → b ≡ true → IsLeft (with_residual f l) True
told_true f l b h k = record { seen = ap (with_residual f) h ∙ ap truth_left k; tells = tt }

pub told_false : (f : Tree → Tree) (l : Left) (b : Bool) → l ≡ truth_left b → b ≡ false → IsLeft (with_residual f l) False
told_false f l b h k = record { seen = ap (with_residual f) h ∙ ap truth_left k; tells = tt }

pub told_residual : (f : Tree → Tree) (l : Left) (e r : Expr Unit) → l ≡ residual (tree_of {T = Unit} e) → tree_of {T = Unit} r ≡ f (tree_of {T = Unit} e) → IsLeft (with_residual f l) (Residual r)
told_residual f l e r h k = record { seen = ap (with_residual f) h ∙ ap residual (sym k); tells = tt }

pub told_error : (f : Tree → Tree) (l : Left) (e : EvaluationError) → is_memory e ≡ false → ((other : Stop) → is_memory e ≡ false → l ≡ stopped (stop_or other e)) → IsLeft (with_residual f l) (Erred e)
told_error f l e m h = record { seen = ap (with_residual f) (h limit m); tells = told_stop l e m h }
