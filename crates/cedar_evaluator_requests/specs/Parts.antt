-- What is left of a set, a record and a call, of whose parts this is left.
-- Rule: partial evaluation; restricted expressions (docs/RULES.md).
use Rattle.std.specs.Prelude.{List}
use Rattle.std.specs.List.{zip}
use Rattle.cedar_expr_model.specs.Builder.{trees}
use Rattle.cedar_expr_model.specs.Name.{Text, Name}
use Rattle.cedar_expr_model.specs.Made.{Made, made_set, made_record}
use Rattle.cedar_expr_model.specs.Tree.{call, set_literal}
use Rattle.cedar_expr_model.specs.ValueParts.{Part}
use Rattle.cedar_evaluator_model.specs.Scope.{Scope, Left, value_left}
use Rattle.cedar_evaluator_model.specs.Steps.{pieces, from_pieces, called_left, made_members, made_fields}

-- a set of these parts
abbrev pub set_of_parts : List (Part Made) → Left
set_of_parts ps = from_pieces (λ ms. value_left (made_set (made_members ms))) (λ us. set_literal (trees us)) (pieces ps)

-- a call of this function at these parts
abbrev pub call_of_parts : Scope → Name → List (Part Made) → Left
call_of_parts s f ps = from_pieces (called_left s f) (λ us. call f (trees us)) (pieces ps)

-- the record of these values, by these names
abbrev pub record_of_values : List Text → List Made → Left
record_of_values ns ms = value_left (made_record (made_fields (zip ns ms)))
