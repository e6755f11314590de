-- What an error of evaluation is in the model, and what an evaluation answers.
-- Rule: partial evaluation (docs/RULES.md).
use Rattle.std.specs.Prelude.{◌≡◌, Bool, true, false, Result, Ok, Err}
use Rattle.cedar_expr_names.specs.Views.{uid_of, plain_name_of}
use Rattle.cedar_expr_model.specs.Tree.{Tree}
use Rattle.cedar_expr_values.specs.Values.{made}
use Rattle.cedar_expr_values.specs.Extensions.{extension_of}
use Rattle.cedar_expr_values.specs.declared.value.Value.{Value}
use Rattle.cedar_expr_values.specs.declared.extension.ExtValue.{ExtValue}
use Rattle.cedar_expr_trees.specs.Trees.{tree_of}
use Rattle.cedar_expr_trees.specs.declared.expr.Expr.{Expr}
use Rattle.cedar_expr_partial.specs.Parts.{part_of}
use Rattle.cedar_expr_partial.specs.declared.partial_value.PartialValue.{PartialValue}
use Rattle.cedar_expr_functions.specs.declared.err.ExtensionFunctionLookupError.{ExtensionFunctionLookupError}
use Rattle.cedar_expr_functions.specs.declared.err.ExtensionFunctionLookupError.TheVariants as lookup
use Rattle.cedar_store_model.specs.Outcome.{missing_entity, missing_attribute_or_tag, missing_field, wrong_type, overflow, zero_divisor, no_function, wrong_count, unlinked_slot, extension_failed}
use Rattle.cedar_evaluator_model.specs.Scope.{Stop, fault, limit, Left, value_left, stopped}
use Rattle.cedar_evaluator_model.specs.Steps.{tag_left}
use Rattle.cedar_evaluator_model.specs.Response.{Cause, stops, no_value}
use Rattle.cedar_evaluator_errors.specs.declared.err.EvaluationError.{EvaluationError}
use Rattle.cedar_evaluator_errors.specs.declared.err.EvaluationError.TheVariants.{OutOfMemory, EntityDoesNotExist, EntityAttrDoesNotExist, RecordAttrDoesNotExist, FailedExtensionFunctionLookup, TypeError, WrongNumArguments, IntegerOverflow, ZeroDivisor, UnlinkedSlot, FailedExtensionFunctionExecution, NonValue, RecursionLimit}

abbrev pub is_lookup_memory : ExtensionFunctionLookupError → Bool
is_lookup_memory lookup.OutOfMemory = true
is_lookup_memory (lookup.FuncDoesNotExist e) = false

-- whether the error is out of memory
abbrev pub is_memory : EvaluationError → Bool
is_memory OutOfMemory = true
is_memory (FailedExtensionFunctionLookup e) = is_lookup_memory e
is_memory e = false

-- Why an evaluation stopped. Out of memory, and that a residual has no value, are no stops of the model: of those it is the other.
abbrev pub stop_or : Stop → EvaluationError → Stop
stop_or other OutOfMemory = other
stop_or other (NonValue e) = other
stop_or other (RecursionLimit e) = limit
stop_or other (EntityDoesNotExist e) = fault (missing_entity (uid_of e.uid.value))
stop_or other (EntityAttrDoesNotExist e) = fault missing_attribute_or_tag
stop_or other (RecordAttrDoesNotExist e) = fault missing_field
stop_or other (TypeError e) = fault wrong_type
stop_or other (IntegerOverflow e) = fault overflow
stop_or other (ZeroDivisor e) = fault zero_divisor
stop_or other (FailedExtensionFunctionLookup e) = fault no_function
stop_or other (WrongNumArguments e) = fault wrong_count
stop_or other (UnlinkedSlot e) = fault unlinked_slot
stop_or other (FailedExtensionFunctionExecution e) = fault (extension_failed (plain_name_of e.extension_name))

-- why a policy erred
abbrev pub cause_of : EvaluationError → Cause
cause_of (NonValue e) = no_value (tree_of e.expr)
cause_of e = stops (stop_or limit e)

-- what a value, or an expression, is
abbrev pub left_seen : PartialValue ExtValue → Left
left_seen p = tag_left (part_of extension_of p)

-- This is left, or it stopped so. Out of memory says nothing.
abbrev pub Leaves : Left → Result (PartialValue ExtValue) EvaluationError → Type 0
Leaves l (Ok p) = l ≡ left_seen p
Leaves l (Err e) = (other : Stop) → is_memory e ≡ false → l ≡ stopped (stop_or other e)

-- This value is left, or it stopped so. Out of memory says nothing.
abbrev pub Gives : Left → Result (Value ExtValue) EvaluationError → Type 0
Gives l (Ok v) = l ≡ value_left (made extension_of v)
Gives l (Err e) = (other : Stop) → is_memory e ≡ false → l ≡ stopped (stop_or other e)

-- The expression is this tree. There is no error but out of memory.
abbrev pub IsTree : Tree → Result (Expr Unit) EvaluationError → Type 0
IsTree t (Ok e) = tree_of e ≡ t
IsTree t (Err e) = is_memory e ≡ true
