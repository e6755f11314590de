-- Requests with what is bound to their names.
-- Rule: sessions; refusals of a session (docs/RULES.md).
use Rattle.std.specs.Prelude.{◌≡◌, Bool, true, false, Option, IsSome, option_and_then, unwrap_or, codes}
use Rattle.std.specs.Option.{option_map_or}
use Rattle.cedar_expr_model.specs.Name.{Text}
use Rattle.cedar_expr_model.specs.Made.{Made}
use Rattle.cedar_expr_model.specs.Restricted.{is_restricted}
use Rattle.cedar_expr_model.specs.Substitution.{Bindings, substituted}
use Rattle.cedar_expr_model.specs.Tree.{Tree, record_literal}
use Rattle.cedar_expr_model.specs.Unknowns.{has_unknown}
use Rattle.cedar_evaluator_model.specs.Reauthorize.{context_from}
use Rattle.cedar_evaluator_model.specs.Response.{PartialRequest}
use Rattle.cedar_evaluator_model.specs.Scope.{Entry, uid, unknown_uid, Context, closed, residual_fields, unknown_context, Left, value_left, residual, stopped}
use Rattle.cedar_evaluator_restricted_exprs.specs.Lefts.{is_stopped}
use Rattle.cedar_evaluator_restricted_exprs.specs.Contexts.{IsOfRecord}
use Rattle.cedar_evaluator_model.specs.Functions.{Functions, left_of_restricted}
use Rattle.cedar_gate_model.specs.Session.{State, value_of, uid_in, entry_now, context_now}

-- an entry with the value that is bound to its name
abbrev pub entry_with : Option Made → Entry → Entry
entry_with value (uid u) = uid u
entry_with value (unknown_uid k) = option_map_or uid (uid_in value) (unknown_uid k)

-- the context that is bound as a value
abbrev pub bound_context : Option Made → Context
bound_context value = unwrap_or (option_and_then (λ m. context_from (value_left m)) value) unknown_context

-- what is left of the fields of a context
abbrev pub fields_left : Functions → Bindings → Tree → Left
fields_left f values t = left_of_restricted f (substituted values t)

-- the context that is left
abbrev pub left_context : Left → Context
left_context l = unwrap_or (context_from l) unknown_context

-- a context with these values, and whether it fails to evaluate with them
abbrev pub context_by : Functions → Bindings → Context → Context
context_by f values (closed fs) = closed fs
context_by f values (residual_fields fs) = left_context (fields_left f values (record_literal fs))
context_by f values unknown_context = bound_context (values (codes "context"))

abbrev pub fails_by : Functions → Bindings → Context → Bool
fails_by f values (residual_fields fs) = is_stopped (fields_left f values (record_literal fs))
fails_by f values c = false

-- the request with these values
abbrev pub request_by : Functions → Bindings → PartialRequest → PartialRequest
request_by f values r = record {
  principal = entry_with (values (codes "principal")) r.principal;
  action = entry_with (values (codes "action")) r.action;
  resource = entry_with (values (codes "resource")) r.resource;
  context = context_by f values r.context;
}

-- the request with what is bound in a state
abbrev pub request_at : Functions → State → PartialRequest → PartialRequest
request_at f s r = record {
  principal = entry_now s (codes "principal") r.principal;
  action = entry_now s (codes "action") r.action;
  resource = entry_now s (codes "resource") r.resource;
  context = context_now f s r.context;
}

-- these are the values that are bound in the state
abbrev pub AreValuesOf : State → Bindings → Type 0
AreValuesOf s values = (n : Text) → values n ≡ value_of s n

-- Whatever the functions, what is left of the expression is left of a record.
pub record IsRecordTree (t : Tree) : Type 0 where
  pub each : (f : Functions) → IsOfRecord (left_of_restricted f t)
