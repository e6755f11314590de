-- What an evaluator knows as a scope of the model, and what it answers.
-- Rule: partial evaluation; the recursion limit (docs/RULES.md).
use Rattle.std.specs.Prelude.{◌≡◌, ◌≤◌, ℕ, List, Bool, true, false, Option, Result, Ok, Err, IfErr}
use Rattle.either.specs.declared.Either.{Either}
use Rattle.either.specs.declared.Either.TheVariants as either
use Rattle.cedar_expr_model.specs.Name.{Text, Name}
use Rattle.cedar_expr_model.specs.Made.{Made}
use Rattle.cedar_expr_model.specs.Table.{Table, Called}
use Rattle.cedar_expr_model.specs.Tree.{Tree, nesting}
use Rattle.cedar_expr_model.specs.Value.{V}
use Rattle.cedar_expr_values.specs.Extensions.{extension_of}
use Rattle.cedar_expr_values.specs.Values.{made, bare}
use Rattle.cedar_expr_values.specs.declared.value.Value.{Value}
use Rattle.cedar_expr_values.specs.declared.extension.ExtValue.{ExtValue}
use Rattle.cedar_expr_trees.specs.Trees.{tree_of}
use Rattle.cedar_expr_trees.specs.declared.expr.Expr.{Expr}
use Rattle.cedar_store_model.specs.Outcome.{Res, val, err}
use Rattle.cedar_store_model.specs.Meaning.{Means}
use Rattle.cedar_store_model.specs.Policy.{SlotBindings, binding_of, condition}
use Rattle.cedar_store_parts.specs.Parts.{bindings_of}
use Rattle.cedar_store_parts.specs.declared.slot_env.SlotEnv.{SlotEnv}
use Rattle.cedar_store_policies.specs.Policies.{policy_of}
use Rattle.cedar_store_policies.specs.declared.policy.Policy.{Policy}
use Rattle.cedar_store_entities.specs.declared.entities.Entities.{Entities}
use Rattle.cedar_evaluator_model.specs.Scope.{Scope, Stop, fault, Left, value_left, residual, stopped, MadeCalled}
use Rattle.cedar_evaluator_model.specs.Steps.{truth_left, on_value, truth_wanted}
use Rattle.cedar_evaluator_model.specs.Evaluation.{evaluated}
use Rattle.cedar_evaluator_model.specs.Known.{known_world}
use Rattle.cedar_evaluator_model.specs.Response.{PartialRequest}
use Rattle.cedar_evaluator_model.specs.OfLaws.Calls.{Agrees}
use Rattle.cedar_evaluator_model.specs.OfLaws.Whole.{NothingUnknown, AllBoundTo}
use Rattle.cedar_evaluator_errors.specs.Outcomes.{is_memory, stop_or}
use Rattle.cedar_evaluator_errors.specs.declared.err.EvaluationError.{EvaluationError}
use Rattle.cedar_evaluator_errors.specs.declared.err.EvaluationError.TheVariants.{NonValue, RecursionLimit}
use Rattle.cedar_evaluator_requests.specs.Views.{request_of}
use Rattle.cedar_evaluator_errors.specs.Calls.{Functions}
use Rattle.cedar_evaluator_reads.specs.Scopes.{values_bound, store_of}
use Rattle.cedar_evaluator_core.specs.declared.evaluator.Evaluator.{Evaluator}
use Rattle.cedar_expr_partial.specs.declared.partial_value.PartialValue.{PartialValue}

-- the request, the values of unknowns, the entities, the table and the limit
abbrev pub asked_of : {T : Type 0} → Evaluator T → PartialRequest
asked_of e = request_of e.request

abbrev pub bound_in : {T : Type 0} → Evaluator T → Text → Option Made
bound_in e = values_bound e.unknowns

abbrev pub entities_in : {T : Type 0} → Evaluator T → Entities
entities_in e = e.entities.now

abbrev pub table_in : {T : Type 0} → Evaluator T → T
table_in e = e.table.now

abbrev pub limit_of : {T : Type 0} → Evaluator T → ℕ
limit_of e = e.limit

-- The scope, where the table's functions answer so and slots are bound so.
abbrev pub scope_in : {T : Type 0} → (T → (Name → List V → Called) → Table) → Functions → Evaluator T → SlotBindings → Scope
scope_in table fs e b =
    record {
      principal = (asked_of e).principal;
      action = (asked_of e).action;
      resource = (asked_of e).resource;
      context = (asked_of e).context;
      slots = binding_of b;
      values = bound_in e;
      table = table (table_in e) fs.answers;
      calls = fs.calls;
      store = store_of (entities_in e);
    }

-- However the table's functions answer, this holds of the scope with these slots, the limit and the expression.
abbrev pub ForEvaluation : {T : Type 0} → (T → (Name → List V → Called) → Table) → (T → (Name → List Made → MadeCalled) → Type 0) → Evaluator T → SlotEnv → Expr Unit → (Scope → ℕ → Tree → Type 0) → Type 0
ForEvaluation table answers_as e slots x p = (fs : Functions) → answers_as (table_in e) fs.calls → p (scope_in table fs e (bindings_of slots)) (limit_of e) (tree_of x)

-- However the table's functions answer, this holds of the scope with the policy's slots, the limit and the policy's condition.
abbrev pub ForCondition : {T : Type 0} → (T → (Name → List V → Called) → Table) → (T → (Name → List Made → MadeCalled) → Type 0) → Evaluator T → Policy → (Scope → ℕ → Tree → Type 0) → Type 0
ForCondition table answers_as e x p = (fs : Functions) → answers_as (table_in e) fs.calls → p (scope_in table fs e (policy_of x).bindings) (limit_of e) (condition (policy_of x))

-- what is left of an expression of which a truth value is wanted
abbrev pub truth_evaluated : Scope → ℕ → Tree → Left
truth_evaluated s n t = on_value (evaluated s n t) truth_wanted residual

-- why no value is left: it stopped, or a residual is left
abbrev pub left_by : Stop → EvaluationError → Left
left_by other (NonValue e) = residual (tree_of e.expr)
left_by other e = stopped (stop_or other e)

-- This value is left; or it stopped so, or a residual is left. Out of memory says nothing.
abbrev pub IsValueOf : Left → Result (Value ExtValue) EvaluationError → Type 0
IsValueOf l (Ok v) = l ≡ value_left (made extension_of v)
IsValueOf l (Err e) = (other : Stop) → is_memory e ≡ false → l ≡ left_by other e

-- This truth value is left; or it stopped so, or a residual is left. Out of memory says nothing.
abbrev pub IsTruthOf : Left → Result Bool EvaluationError → Type 0
IsTruthOf l (Ok b) = l ≡ truth_left b
IsTruthOf l (Err e) = (other : Stop) → is_memory e ≡ false → l ≡ left_by other e

-- This truth value, or this residual, is left, or it stopped so. Out of memory says nothing.
abbrev pub IsVerdict : Left → Result (Either Bool (Expr Unit)) EvaluationError → Type 0
IsVerdict l (Ok (either.Left b)) = l ≡ truth_left b
IsVerdict l (Ok (either.Right e)) = l ≡ residual (tree_of e)
IsVerdict l (Err e) = (other : Stop) → is_memory e ≡ false → l ≡ stopped (stop_or other e)

-- The outcome is this. Out of memory says nothing.
abbrev pub IsMeaningOf : Res V → Result (Value ExtValue) EvaluationError → Type 0
IsMeaningOf (val v) (Ok w) = bare extension_of w ≡ v
IsMeaningOf (val v) (Err e) = is_memory e ≡ true
IsMeaningOf (err f) (Ok w) = ⊥
IsMeaningOf (err f) (Err e) = (other : Stop) → is_memory e ≡ false → fault f ≡ stop_or other e

-- The outcome is what the expression means, of what is known in the scope.
abbrev pub IsMeaningIn : Scope → Tree → Result (Value ExtValue) EvaluationError → Type 0
IsMeaningIn s t r = (o : Res V) → Means (known_world s) t o → IsMeaningOf o r

-- Nothing is unknown in the scope but entities that aren't loaded, the calls answer as the table does, and the expression is within the
-- limit, with values for its unknowns.
pub record IsClosed (s : Scope) (n : ℕ) (t : Tree) : Type 0 where
  pub agrees : Agrees s
  pub known : NothingUnknown s
  pub bound : AllBoundTo s t
  pub within : nesting t ≤ n

abbrev pub is_limit_error : EvaluationError → Bool
is_limit_error (RecursionLimit e) = true
is_limit_error e = false

-- An error isn't that of the limit on the depth.
abbrev pub MeetsNoLimit : Result (PartialValue ExtValue) EvaluationError → Type 0
MeetsNoLimit r = IfErr r (λ x. is_limit_error x ≡ false)
