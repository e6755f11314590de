-- What the refusals of a request say that doesn't take values.
-- Rule: reauthorizing (docs/RULES.md).
use Rattle.std.specs.Prelude.{◌≡◌, Bool, true, false, codes, Result, Ok, Err, if◌then◌else◌}
use Rattle.std.specs.HashMap.{HashMap}
use Rattle.std.specs.Rc.{rc_str_bytes}
use Rattle.std.specs.Str.{bytes_eq}
use Rattle.std.specs.declared.alloc.Global.{Global}
use Rattle.std.specs.declared.rc.RcStr.{RcStr}
use Rattle.cedar_expr_model.specs.Name.{Text}
use Rattle.cedar_expr_model.specs.Tree.{Var, principal, action, resource, context}
use Rattle.cedar_expr_values.specs.declared.value.Value.{Value}
use Rattle.cedar_expr_values.specs.declared.extension.ExtValue.{ExtValue}
use Rattle.cedar_evaluator_model.specs.Scope.{Scope, limit}
use Rattle.cedar_evaluator_model.specs.Reauthorize.{Refusal, wrong_value, known_already, other_type, context_stops, Outcome, makes_it, refuses, request_bound}
use Rattle.cedar_evaluator_errors.specs.Outcomes.{is_memory, stop_or}
use Rattle.cedar_evaluator_errors.specs.declared.err.EvaluationError.{EvaluationError}
use Rattle.cedar_evaluator_errors.specs.declared.err.EvaluationError.TheVariants as evaluation
use Rattle.cedar_evaluator_reads.specs.Scopes.{values_in}
use Rattle.cedar_evaluator_requests.specs.Views.{request_of}
use Rattle.cedar_evaluator_requests.specs.declared.request.Request.{Request}
use Rattle.cedar_evaluator_contexts.specs.declared.err.ConcretizationError.{ConcretizationError}
use Rattle.cedar_evaluator_contexts.specs.declared.err.ConcretizationError.TheVariants.{OutOfMemory, ValueError, VarConfictError, EntityTypeConfictError, ValueEval}

-- an error of evaluation as one of concretizing: out of memory stays itself
abbrev pub as_concretization : EvaluationError → ConcretizationError
as_concretization e = if is_memory e then OutOfMemory else ValueEval e

-- what is refused of the variable of this name; of another name it is the other
abbrev pub of_named : (Var → Refusal) → Refusal → Text → Refusal
of_named refused other n = if bytes_eq n (codes "principal") then refused principal else (if bytes_eq n (codes "action") then refused action else (if bytes_eq n (codes "resource") then refused resource else (if bytes_eq n (codes "context") then refused context else other)))

-- why a context stops; out of memory, and that a residual has no value, are no stops of the model: of those it is the other
abbrev pub stopped_or : Refusal → EvaluationError → Refusal
stopped_or other evaluation.OutOfMemory = other
stopped_or other (evaluation.NonValue e) = other
stopped_or other e = context_stops (stop_or limit e)

-- whether the error is out of memory
abbrev pub is_request_memory : ConcretizationError → Bool
is_request_memory OutOfMemory = true
is_request_memory (ValueError i t v) = false
is_request_memory (VarConfictError i p v) = false
is_request_memory (EntityTypeConfictError i k v) = false
is_request_memory (ValueEval e) = is_memory e

-- Why the request doesn't take the values. Out of memory is no refusal of the model: of it it is the other.
abbrev pub refusal_or : Refusal → ConcretizationError → Refusal
refusal_or other OutOfMemory = other
refusal_or other (ValueError i t v) = of_named wrong_value other (rc_str_bytes i)
refusal_or other (VarConfictError i p v) = of_named known_already other (rc_str_bytes i)
refusal_or other (EntityTypeConfictError i k v) = of_named other_type other (rc_str_bytes i)
refusal_or other (ValueEval e) = stopped_or other e

-- This is made, or the request doesn't take the values for this reason. Out of memory says nothing.
abbrev pub Takes : {A C : Type 0} → (C → A) → Outcome A → Result C ConcretizationError → Type 0
Takes seen o (Ok c) = o ≡ makes_it (seen c)
Takes seen o (Err e) = (other : Refusal) → is_request_memory e ≡ false → o ≡ refuses (refusal_or other e)

-- The request takes these values in the scope.
abbrev pub TakesValues : {S : Type 0} → Scope → HashMap (RcStr Global) (Value ExtValue) S → Request → Result Request ConcretizationError → Type 0
TakesValues s m q r = Takes request_of (request_bound s (values_in m) (request_of q)) r
