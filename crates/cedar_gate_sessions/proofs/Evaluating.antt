-- What an evaluator over what is known knows.
use Rattle.std.proofs.Common.{◌≡◌, ◌∙◌, ℕ, sym, ap, subst}
use Rattle.std.specs.HashMap.{HashMap}
use Rattle.std.specs.declared.alloc.Global.{Global}
use Rattle.std.specs.declared.rc.RcStr.{RcStr}
use Rattle.cedar_expr_functions.specs.Tables.{table_of}
use Rattle.cedar_expr_functions.specs.declared.extensions.Extensions.{Extensions}
use Rattle.cedar_expr_model.specs.Made.{Made}
use Rattle.cedar_expr_model.specs.Uid.{Uid}
use Rattle.cedar_expr_values.specs.declared.extension.ExtValue.{ExtValue}
use Rattle.cedar_expr_values.specs.declared.value.Value.{Value}
use Rattle.cedar_store_entities.specs.declared.entities.Entities.{Entities}
use Rattle.cedar_store_model.specs.Policy.{no_bindings}
use Rattle.cedar_store_model.specs.World.{Found}
use Rattle.cedar_evaluator_core.specs.Evaluators.{asked_of, table_in, entities_in, scope_in, limit_of}
use Rattle.cedar_evaluator_core.specs.Evaluators as evaluator
use Rattle.cedar_evaluator_core.specs.declared.evaluator.Evaluator.{Evaluator}
use Rattle.cedar_evaluator_model.specs.Scope.{Scope}
use Rattle.cedar_evaluator_errors.specs.Answers.{AnswersMade}
use Rattle.cedar_evaluator_errors.specs.Calls as operators
use Rattle.cedar_evaluator_reads.specs.Scopes.{values_in, store_of}
use Rattle.cedar_evaluator_requests.specs.Views.{request_of}
use Rattle.cedar_evaluator_requests.specs.declared.request.Request.{Request}
use Rattle.cedar_evaluator_restricted_exprs.specs.Answers.{AgreesWith}
use Rattle.cedar_gate_model.specs.Session.{Setup, State, scope_now}
use Rattle.cedar_gate_sessions.specs.Gates.{IsKnown}
use Rattle.cedar_gate_sessions.proofs.Scopes.{scope_by, scope_is}

module _ {B : _} {F : _} {g : _} {S : Type 0} (x : Setup) (s : State) (found : Uid → Found Made) (t : Extensions B F g) (agrees : AgreesWith t x.functions)
    (q : Request) (store : Entities) (bound : HashMap (RcStr Global) (Value ExtValue) S) (known : IsKnown x s found q store bound) where
  -- how the table's functions answer
  abbrev pub functions_at : operators.Functions
  functions_at = record { answers = x.functions.table.answers; calls = x.functions.calls }

  module _ (e : Evaluator (Extensions B F g)) (asks : asked_of e ≡ request_of q) (binds : evaluator.bound_in e ≡ values_in bound) (entities : entities_in e ≡ store) (table : table_in e ≡ t) (limit : limit_of e ≡ x.limit) where
    held : (u : Uid) → store_of (entities_in e) u ≡ found u
    held u = ap (λ y. store_of y u) entities ∙ known.store u

    -- what the evaluator knows is what is known at the state
    scope_same : scope_in table_of functions_at e no_bindings ≡ scope_now x s found
    scope_same =
        ap (λ st. scope_by (asked_of e) (evaluator.bound_in e) (table_of (table_in e) x.functions.table.answers) x.functions.calls st) (λ i u. held u i)
        ∙ scope_is x s (asked_of e) (evaluator.bound_in e) (table_of (table_in e) x.functions.table.answers) found (asks ∙ known.request) (λ n. ap (λ f. f n) binds ∙ known.bound n)
        (ap (λ y. table_of y x.functions.table.answers) table ∙ sym agrees.table)

    answers_so : AnswersMade (table_in e) x.functions.calls
    answers_so = subst (λ y. AnswersMade y x.functions.calls) (sym table) agrees.answered

    -- so what holds of its scope and limit holds of those of the state
    pub holds_now : (P : Scope → ℕ → Type 0) → (AnswersMade (table_in e) x.functions.calls → P (scope_in table_of functions_at e no_bindings) (limit_of e)) → P (scope_now x s found) x.limit
    holds_now P h = subst (λ k. P k x.limit) scope_same (subst (λ n. P (scope_in table_of functions_at e no_bindings) n) limit (h answers_so))
