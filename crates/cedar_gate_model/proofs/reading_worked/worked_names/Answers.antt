use Rattle.std.proofs.Common.{refl}
use Rattle.serde_json.proofs.OnLiterals.{serde_json_on_literals}
use Rattle.cedar_gate_model.proofs.reading_worked.worked_names.Goals as goal

pub returns-clause-plain : goal.returns-clause-plain
unfolding serde_json_on_literals
returns-clause-plain c = refl

pub returns-clause-path : goal.returns-clause-path
unfolding serde_json_on_literals
returns-clause-path c = refl

pub returns-clause-reserved : goal.returns-clause-reserved
unfolding serde_json_on_literals
returns-clause-reserved c = refl

pub returns-clause-not_reserved : goal.returns-clause-not_reserved
unfolding serde_json_on_literals
returns-clause-not_reserved c = refl

pub returns-clause-outside_the_grammar : goal.returns-clause-outside_the_grammar
unfolding serde_json_on_literals
returns-clause-outside_the_grammar c = refl

pub returns-clause-list : goal.returns-clause-list
unfolding serde_json_on_literals
returns-clause-list c = refl

pub returns-clause-no_list : goal.returns-clause-no_list
unfolding serde_json_on_literals
returns-clause-no_list c = refl
