-- Scopes whose functions are those of a table.
-- Rule: extension functions; partial evaluation (docs/RULES.md).
use Rattle.std.specs.Prelude.{◌≡◌, List}
use Rattle.cedar_expr_model.specs.Name.{Name}
use Rattle.cedar_expr_model.specs.Made.{Made}
use Rattle.cedar_expr_model.specs.Table.{Table, Called}
use Rattle.cedar_expr_model.specs.Value.{V}
use Rattle.cedar_evaluator_model.specs.Scope.{Scope, MadeCalled}

-- The scope has the functions of the table, which answer as it says.
pub record HasFunctionsOf {T : Type 0} (table : T → (Name → List V → Called) → Table) (answers_as : T → (Name → List Made → MadeCalled) → Type 0) (t : T) (s : Scope) : Type 0 where
  pub answers : Name → List V → Called
  pub tabled : table t answers ≡ s.table
  pub answered : answers_as t s.calls

-- This holds of each scope that has the functions of the table.
abbrev pub ForScopes : {T : Type 0} → (T → (Name → List V → Called) → Table) → (T → (Name → List Made → MadeCalled) → Type 0) → T → (Scope → Type 0) → Type 0
ForScopes table answers_as t p = (s : Scope) → HasFunctionsOf table answers_as t s → p s
