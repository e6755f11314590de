-- What an evaluator's answers say of what is left.
use Rattle.std.proofs.Common.{◌≡◌, ◌⊎◌, inl, inr, Bool, true, false, refl, sym, ap, ◌∙◌}
use Rattle.std.specs.Prelude.{Result, Ok, Err, IfErr}
use Rattle.cedar_expr_model.specs.Made as model
use Rattle.cedar_expr_model.specs.Made.{Made, made_prim, made_set, made_record, made_extension}
use Rattle.cedar_expr_model.specs.Tree.{Tree}
use Rattle.cedar_expr_model.specs.Value.{V, truth, long, text, entity}
use Rattle.cedar_expr_values.specs.Extensions.{extension_of}
use Rattle.cedar_expr_values.specs.Values.{made}
use Rattle.cedar_expr_values.specs.declared.value.Value.{Value}
use Rattle.cedar_expr_values.specs.declared.extension.ExtValue.{ExtValue}
use Rattle.cedar_expr_trees.specs.Trees.{tree_of}
use Rattle.cedar_expr_partial.specs.declared.partial_value.PartialValue.{PartialValue}
use Rattle.cedar_expr_partial.specs.declared.partial_value.PartialValue.TheVariants as partial
use Rattle.cedar_store_model.specs.Outcome.{Res, val, err, overflow}
use Rattle.cedar_evaluator_model.specs.Scope.{Stop, fault, limit, Left, value_left, residual, stopped}
use Rattle.cedar_evaluator_model.specs.Steps.{on_value, truth_left, truth_wanted, picks}
use Rattle.cedar_evaluator_model.specs.OfLaws.Standing.{IsOutcome}
use Rattle.cedar_evaluator_errors.specs.Outcomes.{Leaves, left_seen, is_memory, stop_or}
use Rattle.cedar_evaluator_errors.specs.declared.err.EvaluationError.{EvaluationError}
use Rattle.cedar_evaluator_errors.specs.declared.err.EvaluationError.TheVariants.{OutOfMemory, EntityDoesNotExist, EntityAttrDoesNotExist, RecordAttrDoesNotExist, FailedExtensionFunctionLookup, TypeError, WrongNumArguments, IntegerOverflow, ZeroDivisor, UnlinkedSlot, FailedExtensionFunctionExecution, NonValue, RecursionLimit}
use Rattle.cedar_evaluator_operators.specs.Truths.{IsTruth}
use Rattle.cedar_evaluator_core.specs.Evaluators.{left_by, IsValueOf, IsMeaningOf, is_limit_error}

-- an error says that a residual is left, or why it stopped
by_kind : (other : Stop) (e : EvaluationError) → (left_by other e ≡ stopped (stop_or other e)) ⊎ ((t : Tree) × (left_by other e ≡ residual t))
by_kind other OutOfMemory = inl refl
by_kind other (EntityDoesNotExist x) = inl refl
by_kind other (EntityAttrDoesNotExist x) = inl refl
by_kind other (RecordAttrDoesNotExist x) = inl refl
by_kind other (FailedExtensionFunctionLookup x) = inl refl
by_kind other (TypeError x) = inl refl
by_kind other (WrongNumArguments x) = inl refl
by_kind other (IntegerOverflow x) = inl refl
by_kind other (ZeroDivisor x) = inl refl
by_kind other (UnlinkedSlot x) = inl refl
by_kind other (FailedExtensionFunctionExecution x) = inl refl
by_kind other (NonValue x) = inr (tree_of x.expr, refl)
by_kind other (RecursionLimit x) = inl refl

apart : stopped limit ≡ stopped (fault overflow) → ⊥
apart h = absurd (cc)

-- an error of a step says the same where a value is wanted
pub passed_on : (l : Left) (e : EvaluationError) → ((other : Stop) → is_memory e ≡ false → l ≡ stopped (stop_or other e)) → (other : Stop) → is_memory e ≡ false → l ≡ left_by other e
passed_on l OutOfMemory h other m = h other m
passed_on l (EntityDoesNotExist x) h other m = h other m
passed_on l (EntityAttrDoesNotExist x) h other m = h other m
passed_on l (RecordAttrDoesNotExist x) h other m = h other m
passed_on l (FailedExtensionFunctionLookup x) h other m = h other m
passed_on l (TypeError x) h other m = h other m
passed_on l (WrongNumArguments x) h other m = h other m
passed_on l (IntegerOverflow x) h other m = h other m
passed_on l (ZeroDivisor x) h other m = h other m
passed_on l (UnlinkedSlot x) h other m = h other m
passed_on l (FailedExtensionFunctionExecution x) h other m = h other m
passed_on l (NonValue x) h other m = absurd (apart (sym (h limit m) ∙ h (fault overflow) m))
passed_on l (RecursionLimit x) h other m = h other m

no_value : (other : Stop) (e : EvaluationError) (l : Left) (m : Made) → l ≡ left_by other e → l ≡ value_left m → ⊥
no_value other e l m h k = go (by_kind other e)
  where
    go : (left_by other e ≡ stopped (stop_or other e)) ⊎ ((t : Tree) × (left_by other e ≡ residual t)) → ⊥
    go (inl a) = absurd (cc)
    go (inr (t, a)) = absurd (cc)

this_fault : (other : Stop) (e : EvaluationError) (l : Left) (s : Stop) → l ≡ left_by other e → l ≡ stopped s → s ≡ stop_or other e
this_fault other e l s h k = go (by_kind other e)
  where
    go : (left_by other e ≡ stopped (stop_or other e)) ⊎ ((t : Tree) × (left_by other e ≡ residual t)) → s ≡ stop_or other e
    go (inl a) = cc
    go (inr (t, a)) = absurd (cc)

-- where the meaning is left it is answered
pub meant : (l : Left) (r : Res V) (a : Result (Value ExtValue) EvaluationError) → IsValueOf l a → IsOutcome r l → IsMeaningOf r a
meant l (val v) (Ok w) h (m, is, same) = let e : made extension_of w ≡ m = cc in ap model.bare e ∙ same
meant l (val v) (Err e) h (m, is, same) = go (is_memory e) refl
  where
    go : (b : Bool) → is_memory e ≡ b → is_memory e ≡ true
    go true q = q
    go false q = absurd (no_value limit e l m (h limit q) is)
meant l (err f) (Ok w) h o = absurd (cc)
meant l (err f) (Err e) h o = λ other m. this_fault other e l (fault f) (h other m) o

-- where the limit isn't met the error isn't that
pub not_limit : (l : Left) (a : Result (PartialValue ExtValue) EvaluationError) → Leaves l a → (l ≡ stopped limit → ⊥) → IfErr a (λ e. is_limit_error e ≡ false)
not_limit l (Ok p) h n = tt
not_limit l (Err OutOfMemory) h n = refl
not_limit l (Err (EntityDoesNotExist x)) h n = refl
not_limit l (Err (EntityAttrDoesNotExist x)) h n = refl
not_limit l (Err (RecordAttrDoesNotExist x)) h n = refl
not_limit l (Err (FailedExtensionFunctionLookup x)) h n = refl
not_limit l (Err (TypeError x)) h n = refl
not_limit l (Err (WrongNumArguments x)) h n = refl
not_limit l (Err (IntegerOverflow x)) h n = refl
not_limit l (Err (ZeroDivisor x)) h n = refl
not_limit l (Err (UnlinkedSlot x)) h n = refl
not_limit l (Err (FailedExtensionFunctionExecution x)) h n = refl
not_limit l (Err (NonValue x)) h n = refl
not_limit l (Err (RecursionLimit x)) h n = absurd (n (h limit refl))

-- a truth value that picks, and one that is wanted
pub picked : (m : Made) → picks (truth_left true) (truth_left false) m ≡ truth_wanted m
picked (made_prim (truth true)) = refl
picked (made_prim (truth false)) = refl
picked (made_prim (long n)) = refl
picked (made_prim (text s)) = refl
picked (made_prim (entity u)) = refl
picked (made_set ms) = refl
picked (made_record fs) = refl
picked (made_extension n k f ps) = refl

-- a step that stopped stops what asks for a truth value
pub verdict_stops : (l : Left) (e : EvaluationError) → ((other : Stop) → is_memory e ≡ false → l ≡ stopped (stop_or other e)) → (other : Stop) → is_memory e ≡ false → on_value l truth_wanted residual ≡ stopped (stop_or other e)
verdict_stops l e h other m = ap (λ x. on_value x truth_wanted residual) (h other m)

-- a value that is no truth value is refused
pub verdict_refused : (l : Left) (p : PartialValue ExtValue) (v : Value ExtValue) (e : EvaluationError) → l ≡ left_seen p → p ≡ partial.Value v → IsTruth (made extension_of v) (Err e) → (other : Stop) → is_memory e ≡ false → on_value l truth_wanted residual ≡ stopped (stop_or other e)
verdict_refused l p v e h k t other m = ap (λ x. on_value x truth_wanted residual) (h ∙ ap left_seen k) ∙ sym (picked (made extension_of v)) ∙ t (truth_left true) (truth_left false) other m
