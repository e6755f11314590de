use Rattle.cedar_typechecker_model.proofs.Typing.{typing_is_a_function, lists_are_typed, fields_are_typed, one_judgement}
use Rattle.cedar_typechecker_model.proofs.laws.typing_is_a_function.Goals as goal

pub returns-clause-computed : goal.returns-clause-computed
returns-clause-computed c = typing_is_a_function

pub returns-clause-lists : goal.returns-clause-lists
returns-clause-lists c = lists_are_typed

pub returns-clause-fields : goal.returns-clause-fields
returns-clause-fields c = fields_are_typed

pub returns-clause-at_most_one : goal.returns-clause-at_most_one
returns-clause-at_most_one c = one_judgement
