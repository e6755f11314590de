-- What tells the same at the same place is the same error.
use Rattle.std.proofs.Common.{◌≡◌, Bool, true, false, refl, sym, ap, ◌∙◌}
use Rattle.cedar_expr_functions.specs.declared.err.ExtensionFunctionLookupError.TheVariants as lookup
use Rattle.cedar_store_model.specs.Outcome as fault
use Rattle.cedar_evaluator_model.specs.Scope as model
use Rattle.cedar_evaluator_model.specs.Scope.{Stop}
use Rattle.cedar_evaluator_model.specs.Response as response
use Rattle.cedar_evaluator_model.specs.Response.{Cause}
use Rattle.cedar_evaluator_errors.specs.Contents.{Told, no_memory, no_memory_to_look_up, too_deep, no_entity, no_attribute_or_tag, no_field, no_function, other_type, other_count, binary_overflow, unary_overflow, divided_by_zero, no_binding, failure, no_value, told_of, IsSameError}
use Rattle.cedar_evaluator_errors.specs.Outcomes.{is_memory, stop_or, cause_of}
use Rattle.cedar_evaluator_errors.specs.Places.{error_place}
use Rattle.cedar_evaluator_errors.specs.declared.evaluation_errors.IntegerOverflowError.TheVariants as overflow
use Rattle.cedar_evaluator_errors.specs.declared.err.EvaluationError.{EvaluationError}
use Rattle.cedar_evaluator_errors.specs.declared.err.EvaluationError.TheVariants.{OutOfMemory, EntityDoesNotExist, EntityAttrDoesNotExist, RecordAttrDoesNotExist, FailedExtensionFunctionLookup, TypeError, WrongNumArguments, IntegerOverflow, ZeroDivisor, UnlinkedSlot, FailedExtensionFunctionExecution, NonValue, RecursionLimit}

-- what errors are, by what they tell
abbrev memory_by : Told → Bool
memory_by no_memory = true
memory_by no_memory_to_look_up = true
memory_by t = false

abbrev stop_by : Stop → Told → Stop
stop_by other no_memory = other
stop_by other no_memory_to_look_up = model.fault fault.no_function
stop_by other too_deep = model.limit
stop_by other (no_entity u) = model.fault (fault.missing_entity u)
stop_by other (no_attribute_or_tag u a b c as_ n) = model.fault fault.missing_attribute_or_tag
stop_by other (no_field a as_ n) = model.fault fault.missing_field
stop_by other (no_function f) = model.fault fault.no_function
stop_by other (other_type ts t a) = model.fault fault.wrong_type
stop_by other (other_count f m n) = model.fault fault.wrong_count
stop_by other (binary_overflow o m n) = model.fault fault.overflow
stop_by other (unary_overflow o m) = model.fault fault.overflow
stop_by other divided_by_zero = model.fault fault.zero_divisor
stop_by other (no_binding s) = model.fault fault.unlinked_slot
stop_by other (failure e m a) = model.fault (fault.extension_failed e)
stop_by other (no_value t) = other

abbrev cause_by : Told → Cause
cause_by (no_value t) = response.no_value t
cause_by t = response.stops (stop_by model.limit t)

memory_is : (e : EvaluationError) → is_memory e ≡ memory_by (told_of e)
memory_is OutOfMemory = refl
memory_is (EntityDoesNotExist e) = refl
memory_is (EntityAttrDoesNotExist e) = refl
memory_is (RecordAttrDoesNotExist e) = refl
memory_is (FailedExtensionFunctionLookup lookup.OutOfMemory) = refl
memory_is (FailedExtensionFunctionLookup (lookup.FuncDoesNotExist e)) = refl
memory_is (TypeError e) = refl
memory_is (WrongNumArguments e) = refl
memory_is (IntegerOverflow (overflow.BinaryOp e)) = refl
memory_is (IntegerOverflow (overflow.UnaryOp e)) = refl
memory_is (ZeroDivisor e) = refl
memory_is (UnlinkedSlot e) = refl
memory_is (FailedExtensionFunctionExecution e) = refl
memory_is (NonValue e) = refl
memory_is (RecursionLimit e) = refl

stop_is : (other : Stop) (e : EvaluationError) → stop_or other e ≡ stop_by other (told_of e)
stop_is other OutOfMemory = refl
stop_is other (EntityDoesNotExist e) = refl
stop_is other (EntityAttrDoesNotExist e) = refl
stop_is other (RecordAttrDoesNotExist e) = refl
stop_is other (FailedExtensionFunctionLookup lookup.OutOfMemory) = refl
stop_is other (FailedExtensionFunctionLookup (lookup.FuncDoesNotExist e)) = refl
stop_is other (TypeError e) = refl
stop_is other (WrongNumArguments e) = refl
stop_is other (IntegerOverflow (overflow.BinaryOp e)) = refl
stop_is other (IntegerOverflow (overflow.UnaryOp e)) = refl
stop_is other (ZeroDivisor e) = refl
stop_is other (UnlinkedSlot e) = refl
stop_is other (FailedExtensionFunctionExecution e) = refl
stop_is other (NonValue e) = refl
stop_is other (RecursionLimit e) = refl

cause_is : (e : EvaluationError) → cause_of e ≡ cause_by (told_of e)
cause_is OutOfMemory = refl
cause_is (EntityDoesNotExist e) = refl
cause_is (EntityAttrDoesNotExist e) = refl
cause_is (RecordAttrDoesNotExist e) = refl
cause_is (FailedExtensionFunctionLookup lookup.OutOfMemory) = refl
cause_is (FailedExtensionFunctionLookup (lookup.FuncDoesNotExist e)) = refl
cause_is (TypeError e) = refl
cause_is (WrongNumArguments e) = refl
cause_is (IntegerOverflow (overflow.BinaryOp e)) = refl
cause_is (IntegerOverflow (overflow.UnaryOp e)) = refl
cause_is (ZeroDivisor e) = refl
cause_is (UnlinkedSlot e) = refl
cause_is (FailedExtensionFunctionExecution e) = refl
cause_is (NonValue e) = refl
cause_is (RecursionLimit e) = refl

pub same_error : (e copy : EvaluationError) → told_of copy ≡ told_of e → error_place copy ≡ error_place e → IsSameError e copy
same_error e copy t p = record {
  told = t;
  place = p;
  memory = memory_is copy ∙ ap memory_by t ∙ sym (memory_is e);
  stop = λ other. stop_is other copy ∙ ap (stop_by other) t ∙ sym (stop_is other e);
  cause = cause_is copy ∙ ap cause_by t ∙ sym (cause_is e);
}
