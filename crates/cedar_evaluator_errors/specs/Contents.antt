-- What an error of evaluation tells, and when a copy of it is the same error.
-- Rule: partial evaluation (docs/RULES.md).
use Rattle.std.specs.Prelude.{◌≡◌, ℕ, Bool, List, ◌∷◌, map, Option, option_map}
use Rattle.std.specs.Rc.{rc_str_bytes}
use Rattle.std.specs.String.{string_bytes}
use Rattle.cedar_expr_names.specs.Views.{uid_of, plain_name_of}
use Rattle.cedar_expr_model.specs.Made.{Made}
use Rattle.cedar_expr_model.specs.Name.{Text, Name}
use Rattle.cedar_expr_model.specs.Tree.{Tree, CoreType, SlotId, UnaryOp, BinaryOp}
use Rattle.cedar_expr_model.specs.Uid.{Uid}
use Rattle.cedar_expr_leaves.specs.Operators.{unary_op_of, binary_op_of}
use Rattle.cedar_expr_leaves.specs.Slots.{slot_of}
use Rattle.cedar_expr_values.specs.Extensions.{extension_of}
use Rattle.cedar_expr_values.specs.Types.{core_of}
use Rattle.cedar_expr_values.specs.Values.{made}
use Rattle.cedar_expr_trees.specs.Trees.{tree_of}
use Rattle.cedar_expr_functions.specs.declared.err.ExtensionFunctionLookupError.{ExtensionFunctionLookupError}
use Rattle.cedar_expr_functions.specs.declared.err.ExtensionFunctionLookupError.TheVariants as lookup
use Rattle.cedar_evaluator_model.specs.Scope.{Stop}
use Rattle.cedar_evaluator_errors.specs.Outcomes.{is_memory, stop_or, cause_of}
use Rattle.cedar_evaluator_errors.specs.Places.{error_place}
use Rattle.cedar_evaluator_errors.specs.declared.evaluation_errors.EntityAttrDoesNotExistError.{EntityAttrDoesNotExistError}
use Rattle.cedar_evaluator_errors.specs.declared.evaluation_errors.RecordAttrDoesNotExistError.{RecordAttrDoesNotExistError}
use Rattle.cedar_evaluator_errors.specs.declared.evaluation_errors.TypeError.{TypeError}
use Rattle.cedar_evaluator_errors.specs.declared.evaluation_errors.ExtensionFunctionExecutionError.{ExtensionFunctionExecutionError}
use Rattle.cedar_evaluator_errors.specs.declared.evaluation_errors.IntegerOverflowError.{IntegerOverflowError}
use Rattle.cedar_evaluator_errors.specs.declared.evaluation_errors.IntegerOverflowError.TheVariants as overflow
use Rattle.cedar_evaluator_errors.specs.declared.err.EvaluationError.{EvaluationError}
use Rattle.cedar_evaluator_errors.specs.declared.err.EvaluationError.TheVariants as error

-- All that an error tells but for its place: its kind, with what it keeps.
pub data Told : Type 0 where
  no_memory no_memory_to_look_up too_deep : Told
  no_entity : Uid → Told
  no_attribute_or_tag : Uid → Text → Bool → Bool → List Text → ℕ → Told
  no_field : Text → List Text → ℕ → Told
  no_function : Name → Told
  other_type : List CoreType → CoreType → Option Text → Told
  other_count : Name → ℕ → ℕ → Told
  binary_overflow : BinaryOp → Made → Made → Told
  unary_overflow : UnaryOp → Made → Told
  divided_by_zero : Told
  no_binding : SlotId → Told
  failure : Name → Text → Option Text → Told
  no_value : Tree → Told

abbrev pub told_of_attribute : EntityAttrDoesNotExistError → Told
told_of_attribute e = no_attribute_or_tag (uid_of e.entity.value) (rc_str_bytes e.attr_or_tag) e.was_attr e.exists_the_other_kind (map (λ s. rc_str_bytes s) e.available_attrs_or_tags.items) e.total_attrs_or_tags

abbrev pub told_of_field : RecordAttrDoesNotExistError → Told
told_of_field e = no_field (rc_str_bytes e.attr) (map (λ s. rc_str_bytes s) e.available_attrs.items) e.total_attrs

abbrev pub told_of_lookup : ExtensionFunctionLookupError → Told
told_of_lookup lookup.OutOfMemory = no_memory_to_look_up
told_of_lookup (lookup.FuncDoesNotExist e) = no_function (plain_name_of e.name)

abbrev pub told_of_type : TypeError → Told
told_of_type e = other_type (core_of e.expected.head ∷ map core_of e.expected.tail.items) (core_of e.actual) (option_map (λ s. string_bytes s) e.advice)

abbrev pub told_of_overflow : IntegerOverflowError → Told
told_of_overflow (overflow.BinaryOp e) = binary_overflow (binary_op_of e.op) (made extension_of e.arg1) (made extension_of e.arg2)
told_of_overflow (overflow.UnaryOp e) = unary_overflow (unary_op_of e.op) (made extension_of e.arg)

abbrev pub told_of_failure : ExtensionFunctionExecutionError → Told
told_of_failure e = failure (plain_name_of e.extension_name) (string_bytes e.msg) (option_map (λ s. string_bytes s) e.advice)

abbrev pub told_of : EvaluationError → Told
told_of error.OutOfMemory = no_memory
told_of (error.EntityDoesNotExist e) = no_entity (uid_of e.uid.value)
told_of (error.EntityAttrDoesNotExist e) = told_of_attribute e
told_of (error.RecordAttrDoesNotExist e) = told_of_field e
told_of (error.FailedExtensionFunctionLookup e) = told_of_lookup e
told_of (error.TypeError e) = told_of_type e
told_of (error.WrongNumArguments e) = other_count (plain_name_of e.function_name) e.expected e.actual
told_of (error.IntegerOverflow e) = told_of_overflow e
told_of (error.ZeroDivisor e) = divided_by_zero
told_of (error.UnlinkedSlot e) = no_binding (slot_of e.slot)
told_of (error.FailedExtensionFunctionExecution e) = told_of_failure e
told_of (error.NonValue e) = no_value (tree_of e.expr)
told_of (error.RecursionLimit e) = too_deep

-- The copy is the same error: it tells the same at the same place, and so it is the same to all that asks of errors.
pub record IsSameError (e copy : EvaluationError) : Type 0 where
  pub told : told_of copy ≡ told_of e
  pub place : error_place copy ≡ error_place e
  pub memory : is_memory copy ≡ is_memory e
  pub stop : (other : Stop) → stop_or other copy ≡ stop_or other e
  pub cause : cause_of copy ≡ cause_of e
