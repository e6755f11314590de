-- Calls of the functions of a table.
-- Rule: extension functions; partial evaluation (docs/RULES.md).
use Rattle.std.specs.Prelude.{List, map}
use Rattle.cedar_expr_model.specs.Name.{Name}
use Rattle.cedar_expr_model.specs.Made.{Made}
use Rattle.cedar_expr_model.specs.Table.{Table, Called}
use Rattle.cedar_expr_model.specs.Value.{V}
use Rattle.cedar_expr_values.specs.Extensions.{extension_of}
use Rattle.cedar_expr_values.specs.Values.{made}
use Rattle.cedar_expr_values.specs.declared.value.Value.{Value}
use Rattle.cedar_expr_values.specs.declared.extension.ExtValue.{ExtValue}
use Rattle.cedar_evaluator_model.specs.Scope.{MadeCalled}

-- the arguments of a call
abbrev pub arguments_of : List (Value ExtValue) → List Made
arguments_of vs = map (made extension_of) vs

-- However a table's functions answer, this holds of the table and the calls of its functions.
abbrev pub ForCalls : ((Name → List V → Called) → Table) → ((Name → List Made → MadeCalled) → Type 0) → (Table → (Name → List Made → MadeCalled) → Type 0) → Type 0
ForCalls table answers_as p = (answers : Name → List V → Called) (calls : Name → List Made → MadeCalled) → answers_as calls → p (table answers) calls

-- However a function answers under whatever name, this holds of the calls and the name.
abbrev pub ForFunction : ((List Made → MadeCalled) → Type 0) → ((Name → List Made → MadeCalled) → Name → Type 0) → Type 0
ForFunction answers p = (calls : Name → List Made → MadeCalled) (n : Name) → answers (calls n) → p calls n
