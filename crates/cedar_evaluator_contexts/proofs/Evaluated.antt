-- What an evaluator that knows nothing but functions leaves of a restricted expression.
use Rattle.std.proofs.Common.{◌≡◌, ◌∙◌, List, None, true, refl, sym, ap, subst}
use Rattle.std.specs.Prelude.{Result}
use Rattle.cedar_expr_model.specs.Name.{Name}
use Rattle.cedar_expr_model.specs.Made.{Made}
use Rattle.cedar_expr_model.specs.Restricted.{is_restricted}
use Rattle.cedar_expr_model.specs.Table.{Table, Called}
use Rattle.cedar_expr_model.specs.Tree.{Tree}
use Rattle.cedar_expr_model.specs.Value.{V}
use Rattle.cedar_expr_partial.specs.declared.partial_value.PartialValue.{PartialValue}
use Rattle.cedar_expr_values.specs.declared.extension.ExtValue.{ExtValue}
use Rattle.cedar_store_model.specs.Policy.{SlotBindings}
use Rattle.cedar_evaluator_model.specs.Scope.{Scope, MadeCalled}
use Rattle.cedar_evaluator_model.specs.Evaluation.{evaluated}
use Rattle.cedar_evaluator_model.specs.Reauthorize.{restricted_left}
use Rattle.cedar_evaluator_errors.specs.Outcomes.{Leaves}
use Rattle.cedar_evaluator_errors.specs.declared.err.EvaluationError.{EvaluationError}
use Rattle.cedar_evaluator_errors.specs.Calls.{Functions}
use Rattle.cedar_evaluator_core.specs.Evaluators.{bound_in, table_in, limit_of, scope_in}
use Rattle.cedar_evaluator_core.specs.declared.evaluator.Evaluator.{Evaluator}
use Rattle.cedar_evaluator_contexts.specs.Functions.{HasFunctionsOf}
use Rattle.cedar_evaluator_contexts.proofs.Alike.{left_same}

-- The evaluator knows this.
pub record KnowsNothing {T : Type 0} (e : Evaluator T) (t : T) : Type 0 where
  pub tabled : table_in e ≡ t
  pub unbound : bound_in e ≡ (λ n. None)
  pub deep : limit_of e ≡ 512

pub restricted_by : {T : Type 0} (table : T → (Name → List V → Called) → Table) (answers_as : T → (Name → List Made → MadeCalled) → Type 0) (e : Evaluator T) (t : T) (b : SlotBindings) (x y : Tree) (r : Result (PartialValue ExtValue) EvaluationError) (s : Scope)
    → KnowsNothing e t → x ≡ y → is_restricted x ≡ true
    → ((fs : Functions) → answers_as (table_in e) fs.calls → Leaves (evaluated (scope_in table fs e b) (limit_of e) x) r)
    → HasFunctionsOf table answers_as t s → Leaves (restricted_left s y) r
restricted_by {T} table answers_as e t b x y r s k d i all h =
    let fs : Functions = record { answers = h.answers; calls = s.calls } in
    let answered = subst (λ (u : T). answers_as u s.calls) (sym k.tabled) h.answered in
    let same : evaluated (scope_in table fs e b) 512 x ≡ restricted_left s x = left_same s (scope_in table fs e b) x (ap (λ (u : T). table u h.answers) k.tabled ∙ h.tabled) refl (λ n. ap (λ w. w n) k.unbound) i in
    subst (λ u. Leaves (restricted_left s u) r) d (subst (λ l. Leaves l r) same (subst (λ n. Leaves (evaluated (scope_in table fs e b) n x) r) k.deep (all fs answered)))

-- a scope has the functions of whatever is the same table
pub over_same : {T : Type 0} (table : T → (Name → List V → Called) → Table) (answers_as : T → (Name → List Made → MadeCalled) → Type 0) (t u : T) (s : Scope) → t ≡ u → HasFunctionsOf table answers_as u s → HasFunctionsOf table answers_as t s
over_same {T} table answers_as t u s e h = subst (λ (x : T). HasFunctionsOf table answers_as x s) (sym e) h
