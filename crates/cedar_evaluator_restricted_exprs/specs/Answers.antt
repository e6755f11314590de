-- Which functions of the model are those of a table.
-- Rule: extension functions (docs/RULES.md).
use Rattle.std.specs.Prelude.{◌≡◌, List}
use Rattle.cedar_expr_model.specs.Name.{Name}
use Rattle.cedar_expr_model.specs.Table.{Called}
use Rattle.cedar_expr_model.specs.Value.{V}
use Rattle.cedar_expr_functions.specs.Tables.{table_of}
use Rattle.cedar_expr_functions.specs.declared.extensions.Extensions.{Extensions}
use Rattle.cedar_evaluator_errors.specs.Answers.{AnswersMade}
use Rattle.cedar_evaluator_model.specs.Scope.{Scope}
use Rattle.cedar_evaluator_model.specs.Functions.{Functions, with_functions}

-- These functions of the model are those of the table: the table has them, and its functions answer as they do.
pub record AgreesWith {B : _} {F : _} {g : _} (t : Extensions B F g) (x : Functions) : Type 0 where
  pub table : x.table ≡ table_of t x.table.answers
  pub answered : AnswersMade t x.calls

-- By any functions of the model that are a table's, this holds of the scope that knows nothing but them.
abbrev pub ForFunctions : (Functions → Type 0) → (Scope → Type 0) → Type 0
ForFunctions agrees p = (x : Functions) → agrees x → p (with_functions x)

-- The same, where the table has them, and its functions answer as they do.
abbrev pub ForTable : {B : _} {F : _} {g : _} → Extensions B F g → (Scope → Type 0) → Type 0
ForTable t p = (x : Functions) (answers : Name → List V → Called) → x.table ≡ table_of t answers → AnswersMade t x.calls → p (with_functions x)
