-- What a table's functions answer.
-- Rule: extension functions (docs/RULES.md).
use Rattle.std.specs.Prelude.{List, map, length, if◌then◌else◌}
use Rattle.std.specs.Option.{option_map_or}
use Rattle.cedar_expr_model.specs.Name.{Name}
use Rattle.cedar_expr_model.specs.Made.{Made, bare}
use Rattle.cedar_expr_model.specs.Table.{Table, Called, Signature, signature_of, takes_count, are_of_types}
use Rattle.cedar_expr_model.specs.Value.{V}
use Rattle.cedar_store_model.specs.Outcome.{no_function, wrong_count, wrong_type}
use Rattle.cedar_evaluator_model.specs.Scope.{MadeCalled, Left}
use Rattle.cedar_evaluator_model.specs.Steps.{errs, answer_left}

-- What functions answer: values alone, and values with the calls that make them.
pub record Functions : Type 0 where
  pub answers : Name → List V → Called
  pub calls : Name → List Made → MadeCalled

-- what a call of a function of this signature leaves
abbrev pub call_by : (Name → List Made → MadeCalled) → Name → List Made → Signature → Left
call_by calls f ms g = if takes_count g (length ms) then (if are_of_types g.parameters (map bare ms) then answer_left (calls f ms) else errs wrong_type) else errs wrong_count

abbrev pub called_by : Table → (Name → List Made → MadeCalled) → Name → List Made → Left
called_by table calls f ms = option_map_or (call_by calls f ms) (signature_of table f) (errs no_function)
