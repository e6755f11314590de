-- Where errors of evaluation are.
-- Rule: partial evaluation (docs/RULES.md).
use Rattle.std.specs.Prelude.{Option, None, is_some, if◌then◌else◌}
use Rattle.cedar_expr_names.specs.declared.loc.Loc.{Loc}
use Rattle.cedar_expr_functions.specs.declared.err.ExtensionFunctionLookupError.{ExtensionFunctionLookupError}
use Rattle.cedar_expr_functions.specs.declared.err.ExtensionFunctionLookupError.TheVariants as lookup
use Rattle.cedar_evaluator_errors.specs.declared.evaluation_errors.IntegerOverflowError.{IntegerOverflowError}
use Rattle.cedar_evaluator_errors.specs.declared.evaluation_errors.IntegerOverflowError.TheVariants as overflow
use Rattle.cedar_evaluator_errors.specs.declared.err.EvaluationError.{EvaluationError}
use Rattle.cedar_evaluator_errors.specs.declared.err.EvaluationError.TheVariants as error

abbrev pub lookup_place : ExtensionFunctionLookupError → Option Loc
lookup_place lookup.OutOfMemory = None
lookup_place (lookup.FuncDoesNotExist e) = e.source_loc

abbrev pub overflow_place : IntegerOverflowError → Option Loc
overflow_place (overflow.BinaryOp e) = e.source_loc
overflow_place (overflow.UnaryOp e) = e.source_loc

-- the place of an error: out of memory has none
abbrev pub error_place : EvaluationError → Option Loc
error_place error.OutOfMemory = None
error_place (error.EntityDoesNotExist e) = e.source_loc
error_place (error.EntityAttrDoesNotExist e) = e.source_loc
error_place (error.RecordAttrDoesNotExist e) = e.source_loc
error_place (error.FailedExtensionFunctionLookup e) = lookup_place e
error_place (error.TypeError e) = e.source_loc
error_place (error.WrongNumArguments e) = e.source_loc
error_place (error.IntegerOverflow e) = overflow_place e
error_place (error.ZeroDivisor e) = e.source_loc
error_place (error.UnlinkedSlot e) = e.source_loc
error_place (error.FailedExtensionFunctionExecution e) = e.source_loc
error_place (error.NonValue e) = e.source_loc
error_place (error.RecursionLimit e) = e.source_loc

abbrev pub lookup_moved : Option Loc → ExtensionFunctionLookupError → ExtensionFunctionLookupError
lookup_moved l lookup.OutOfMemory = lookup.OutOfMemory
lookup_moved l (lookup.FuncDoesNotExist e) = lookup.FuncDoesNotExist (record e { source_loc = l })

abbrev pub overflow_moved : Option Loc → IntegerOverflowError → IntegerOverflowError
overflow_moved l (overflow.BinaryOp e) = overflow.BinaryOp (record e { source_loc = l })
overflow_moved l (overflow.UnaryOp e) = overflow.UnaryOp (record e { source_loc = l })

-- the error at this place, or without one; all else is as it was
abbrev pub error_moved : Option Loc → EvaluationError → EvaluationError
error_moved l error.OutOfMemory = error.OutOfMemory
error_moved l (error.EntityDoesNotExist e) = error.EntityDoesNotExist (record e { source_loc = l })
error_moved l (error.EntityAttrDoesNotExist e) = error.EntityAttrDoesNotExist (record e { source_loc = l })
error_moved l (error.RecordAttrDoesNotExist e) = error.RecordAttrDoesNotExist (record e { source_loc = l })
error_moved l (error.FailedExtensionFunctionLookup e) = error.FailedExtensionFunctionLookup (lookup_moved l e)
error_moved l (error.TypeError e) = error.TypeError (record e { source_loc = l })
error_moved l (error.WrongNumArguments e) = error.WrongNumArguments (record e { source_loc = l })
error_moved l (error.IntegerOverflow e) = error.IntegerOverflow (overflow_moved l e)
error_moved l (error.ZeroDivisor e) = error.ZeroDivisor (record e { source_loc = l })
error_moved l (error.UnlinkedSlot e) = error.UnlinkedSlot (record e { source_loc = l })
error_moved l (error.FailedExtensionFunctionExecution e) = error.FailedExtensionFunctionExecution (record e { source_loc = l })
error_moved l (error.NonValue e) = error.NonValue (record e { source_loc = l })
error_moved l (error.RecursionLimit e) = error.RecursionLimit (record e { source_loc = l })

-- the error at its own place, or at this one where it has none
abbrev pub error_placed : Option Loc → EvaluationError → EvaluationError
error_placed l e = if is_some (error_place e) then e else error_moved l e
