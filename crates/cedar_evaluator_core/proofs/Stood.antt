-- What is answered stands for the expression, and what is owed is answered.
use Rattle.std.proofs.Common.{◌≡◌, Bool, true, false, refl, sym, ap, ◌∙◌, subst}
use Rattle.std.specs.Prelude.{Result, Ok, Err}
use Rattle.cedar_expr_model.specs.Made as model
use Rattle.cedar_expr_model.specs.Made.{Made}
use Rattle.cedar_expr_model.specs.Tree.{Tree}
use Rattle.cedar_expr_model.specs.Value.{V}
use Rattle.cedar_expr_values.specs.Extensions.{extension_of}
use Rattle.cedar_expr_values.specs.Values.{made}
use Rattle.cedar_expr_values.specs.declared.extension.ExtValue.{ExtValue}
use Rattle.cedar_expr_trees.specs.Trees.{tree_of}
use Rattle.cedar_expr_partial.specs.declared.partial_value.PartialValue.{PartialValue}
use Rattle.cedar_expr_partial.specs.declared.partial_value.PartialValue.TheVariants as partial
use Rattle.cedar_store_model.specs.Outcome.{Res, val, err, overflow}
use Rattle.cedar_store_model.specs.World.{World}
use Rattle.cedar_evaluator_model.specs.Completion.{FitsAnnotations}
use Rattle.cedar_evaluator_model.specs.OfLaws.Standing.{IsOutcome, StandsFor}
use Rattle.cedar_evaluator_model.specs.Scope.{fault, limit, Left, value_left, residual, stopped}
use Rattle.cedar_evaluator_errors.specs.Outcomes.{Leaves, is_memory, stop_or}
use Rattle.cedar_evaluator_errors.specs.declared.err.EvaluationError.{EvaluationError}
use Rattle.cedar_evaluator_errors.specs.declared.err.EvaluationError.TheVariants.{OutOfMemory, EntityDoesNotExist, EntityAttrDoesNotExist, RecordAttrDoesNotExist, FailedExtensionFunctionLookup, TypeError, WrongNumArguments, IntegerOverflow, ZeroDivisor, UnlinkedSlot, FailedExtensionFunctionExecution, NonValue, RecursionLimit}
use Rattle.cedar_evaluator_core.specs.Completed.{StandsIn, IsOutcomeIn}

pub stands_in : (w : World) (t : Tree) (l : Left) (a : Result (PartialValue ExtValue) EvaluationError) → Leaves l a → StandsFor w t l → ((r : Tree) → l ≡ residual r → FitsAnnotations w r) → StandsIn w t a
stands_in w t l (Ok (partial.Value v)) h k f = subst (StandsFor w t) h k
stands_in w t l (Ok (partial.Residual e)) h k f = (subst (StandsFor w t) h k, f (tree_of e) h)
stands_in w t l (Err OutOfMemory) h k f = λ m n. absurd (cc)
stands_in w t l (Err (EntityDoesNotExist x)) h k f = λ m n. subst (StandsFor w t) (h limit m) k
stands_in w t l (Err (EntityAttrDoesNotExist x)) h k f = λ m n. subst (StandsFor w t) (h limit m) k
stands_in w t l (Err (RecordAttrDoesNotExist x)) h k f = λ m n. subst (StandsFor w t) (h limit m) k
stands_in w t l (Err (FailedExtensionFunctionLookup x)) h k f = λ m n. subst (StandsFor w t) (h limit m) k
stands_in w t l (Err (TypeError x)) h k f = λ m n. subst (StandsFor w t) (h limit m) k
stands_in w t l (Err (WrongNumArguments x)) h k f = λ m n. subst (StandsFor w t) (h limit m) k
stands_in w t l (Err (IntegerOverflow x)) h k f = λ m n. subst (StandsFor w t) (h limit m) k
stands_in w t l (Err (ZeroDivisor x)) h k f = λ m n. subst (StandsFor w t) (h limit m) k
stands_in w t l (Err (UnlinkedSlot x)) h k f = λ m n. subst (StandsFor w t) (h limit m) k
stands_in w t l (Err (FailedExtensionFunctionExecution x)) h k f = λ m n. subst (StandsFor w t) (h limit m) k
stands_in w t l (Err (NonValue x)) h k f = λ m n. let e : stopped limit ≡ stopped (fault overflow) = sym (h limit m) ∙ h (fault overflow) m in absurd (cc)
stands_in w t l (Err (RecursionLimit x)) h k f = λ m n. absurd (cc)

-- a value that is left is no stop
no_stop : (l : Left) (m : Made) (e : EvaluationError) → l ≡ value_left m → l ≡ stopped (stop_or limit e) → ⊥
no_stop l m e h k = let q = sym h ∙ k in absurd (cc)

pub outcome_in : (l : Left) (r : Res V) (a : Result (PartialValue ExtValue) EvaluationError) → Leaves l a → IsOutcome r l → IsOutcomeIn r a
outcome_in l (val v) (Ok (partial.Value w)) h (m, is, same) = let e : made extension_of w ≡ m = cc in ap model.bare e ∙ same
outcome_in l (val v) (Ok (partial.Residual x)) h (m, is, same) = absurd (cc)
outcome_in l (val v) (Err e) h (m, is, same) = go (is_memory e) refl
  where
    go : (b : Bool) → is_memory e ≡ b → is_memory e ≡ true
    go true q = q
    go false q = absurd (no_stop l m e is (h limit q))
outcome_in l (err f) (Ok (partial.Value w)) h o = absurd (cc)
outcome_in l (err f) (Ok (partial.Residual x)) h o = absurd (cc)
outcome_in l (err f) (Err e) h o = λ other m. let q = sym o ∙ h other m in cc
