-- Requests and contexts of the code with what is bound to their names, and at each state in which it is bound.
-- Rule: sessions; refusals of a session (docs/RULES.md).
use Rattle.std.specs.Prelude.{◌≡◌, Bool, Option, option_map}
use Rattle.std.specs.Borrow.{Bor}
use Rattle.std.specs.HashMap.{HashMap}
use Rattle.std.specs.declared.alloc.Global.{Global}
use Rattle.std.specs.declared.rc.RcStr.{RcStr}
use Rattle.cedar_expr_functions.specs.declared.extensions.Extensions.{Extensions}
use Rattle.cedar_expr_values.specs.declared.extension.ExtValue.{ExtValue}
use Rattle.cedar_expr_values.specs.declared.value.Value.{Value}
use Rattle.cedar_evaluator_model.specs.Response.{PartialRequest}
use Rattle.cedar_evaluator_model.specs.Scope as scope
use Rattle.cedar_evaluator_model.specs.Scope.{Left}
use Rattle.cedar_evaluator_requests.specs.Views.{context_or_unknown, request_of, restricted_tree}
use Rattle.cedar_evaluator_requests.specs.declared.context.Context.{Context}
use Rattle.cedar_evaluator_requests.specs.declared.context.RestrictedFields.{RestrictedFields}
use Rattle.cedar_evaluator_requests.specs.declared.request.Request.{Request}
use Rattle.cedar_evaluator_restricted_exprs.specs.Answers.{AgreesWith}
use Rattle.cedar_evaluator_model.specs.Functions.{Functions}
use Rattle.cedar_gate_model.specs.Session.{State, ContextFails}
use Rattle.cedar_gate_openings.specs.Names.{bound_in}
use Rattle.cedar_gate_openings.specs.Requests.{fails_by, fields_left, request_at, request_by, AreValuesOf}

-- by each functions with which the table agrees
abbrev pub ByFunctions : {B : _} {F : _} {g : _} → Extensions B F g → (Functions → Type 0) → Type 0
ByFunctions t holds = (x : Functions) → AgreesWith t x → holds x

-- a context where there is one, else the unknown one
abbrev pub context_in : Option (Bor Context) → scope.Context
context_in c = context_or_unknown (option_map (λ r. r.now) c)

-- the request with what is bound, whether its context fails to evaluate with that, and what is left of fields with it
abbrev pub request_with : {S : Type 0} → Functions → HashMap (RcStr Global) (Value ExtValue) S → Request → PartialRequest
request_with f values start = request_by f (bound_in values) (request_of start)

abbrev pub fails_with : {S : Type 0} → Functions → HashMap (RcStr Global) (Value ExtValue) S → Request → Bool
fails_with f values start = fails_by f (bound_in values) (request_of start).context

abbrev pub left_with : {S : Type 0} → Functions → HashMap (RcStr Global) (Value ExtValue) S → RestrictedFields → Left
left_with f values fields = fields_left f (bound_in values) (restricted_tree fields)

-- the request is the first one with these values
abbrev pub IsRequestBy : {S : Type 0} → Functions → HashMap (RcStr Global) (Value ExtValue) S → Request → Request → Type 0
IsRequestBy f values start q = (s : State) → AreValuesOf s (bound_in values) → request_of q ≡ request_at f s (request_of start)

-- the context of the request fails to evaluate with these values, or evaluates
abbrev pub ContextFailsBy : {S : Type 0} → Functions → HashMap (RcStr Global) (Value ExtValue) S → Request → Type 0
ContextFailsBy f values start = (s : State) → AreValuesOf s (bound_in values) → ContextFails f s (request_of start).context

abbrev pub ContextEvaluatesBy : {S : Type 0} → Functions → HashMap (RcStr Global) (Value ExtValue) S → Request → Type 0
ContextEvaluatesBy f values start = (s : State) → AreValuesOf s (bound_in values) → ContextFails f s (request_of start).context → ⊥
