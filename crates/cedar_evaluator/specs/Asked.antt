-- In which scope, within which limit and by which policies a request is answered.
-- Rule: partial responses; reauthorizing (docs/RULES.md).
use Rattle.std.specs.Prelude.{◌≡◌, ℕ, List}
use Rattle.std.specs.HashMap.{HashMap}
use Rattle.std.specs.declared.alloc.Global.{Global}
use Rattle.std.specs.declared.rc.RcStr.{RcStr}
use Rattle.cedar_expr_model.specs.Made.{Made}
use Rattle.cedar_expr_model.specs.Name.{Name}
use Rattle.cedar_expr_model.specs.Substitution.{Bindings}
use Rattle.cedar_expr_model.specs.Table.{Table, Called}
use Rattle.cedar_expr_model.specs.Value.{V}
use Rattle.cedar_expr_values.specs.declared.value.Value.{Value}
use Rattle.cedar_expr_values.specs.declared.extension.ExtValue.{ExtValue}
use Rattle.cedar_store_entities.specs.declared.entities.Entities.{Entities}
use Rattle.cedar_store_model.specs.Policy.{Policy, no_bindings}
use Rattle.cedar_store_policies.specs.PolicySets.{set_of}
use Rattle.cedar_store_policies.specs.declared.policy_set.PolicySet.{PolicySet}
use Rattle.cedar_evaluator_model.specs.Response.{Response}
use Rattle.cedar_evaluator_model.specs.Scope.{Scope, MadeCalled}
use Rattle.cedar_evaluator_errors.specs.Calls.{Functions}
use Rattle.cedar_evaluator_reads.specs.Scopes.{values_in}
use Rattle.cedar_evaluator_requests.specs.Views.{request_of}
use Rattle.cedar_evaluator_requests.specs.declared.request.Request.{Request}
use Rattle.cedar_evaluator_core.specs.Evaluators.{asked_of, table_in, limit_of, scope_in}
use Rattle.cedar_evaluator_core.specs.declared.evaluator.Evaluator.{Evaluator}
use Rattle.cedar_evaluator.specs.Authorizers.{asks_table, keeps_limit}
use Rattle.cedar_evaluator.specs.Responses.{response_seen}
use Rattle.cedar_evaluator.specs.Scopes.{scope_for}
use Rattle.cedar_evaluator.specs.declared.authorizing.Authorizer.{Authorizer}
use Rattle.cedar_evaluator.specs.declared.partial_response.PartialResponse.{PartialResponse}

-- However the table's functions answer, this holds of the scope of the request over these entities, the authorizer's limit, and the policies.
abbrev pub ForRequest : {T : Type 0} → (T → (Name → List V → Called) → Table) → (T → (Name → List Made → MadeCalled) → Type 0) → Authorizer T → Request → Entities → PolicySet → (Scope → ℕ → List Policy → Type 0) → Type 0
ForRequest table answers_as a q es ps p = (fs : Functions) → answers_as (asks_table a) fs.calls → p (scope_for table (asks_table a) (request_of q) es fs) (keeps_limit a) (set_of ps).policies

-- However the table's functions answer, this holds of the scope of the response's request over these entities, the authorizer's limit, the
-- values of unknowns, and the response.
abbrev pub ForReauthorizing : {T S : Type 0} → (T → (Name → List V → Called) → Table) → (T → (Name → List Made → MadeCalled) → Type 0) → Authorizer T → PartialResponse → Entities → HashMap (RcStr Global) (Value ExtValue) S → (Scope → ℕ → Bindings → Response → Type 0) → Type 0
ForReauthorizing table answers_as a r es m p = (fs : Functions) → answers_as (asks_table a) fs.calls → p (scope_for table (asks_table a) (response_seen r).request es fs) (keeps_limit a) (values_in m) (response_seen r)

-- However the table's functions answer, this holds of the evaluator's scope without slots, and its limit.
abbrev pub ForEvaluator : {T : Type 0} → (T → (Name → List V → Called) → Table) → (T → (Name → List Made → MadeCalled) → Type 0) → Evaluator T → (Scope → ℕ → Type 0) → Type 0
ForEvaluator table answers_as e p = (fs : Functions) → answers_as (table_in e) fs.calls → p (scope_in table fs e no_bindings) (limit_of e)

-- The same, where the request is the evaluator's.
abbrev pub ForAsked : {T : Type 0} → (T → (Name → List V → Called) → Table) → (T → (Name → List Made → MadeCalled) → Type 0) → Request → Evaluator T → (Scope → ℕ → Type 0) → Type 0
ForAsked table answers_as q e p = (fs : Functions) → request_of q ≡ asked_of e → answers_as (table_in e) fs.calls → p (scope_in table fs e no_bindings) (limit_of e)
