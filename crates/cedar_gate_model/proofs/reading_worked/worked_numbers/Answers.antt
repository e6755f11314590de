use Rattle.std.proofs.Common.{refl}
use Rattle.serde_json.proofs.OnLiterals.{serde_json_on_literals}
use Rattle.cedar_gate_model.proofs.reading_worked.worked_numbers.Goals as goal

pub returns-clause-low : goal.returns-clause-low
unfolding serde_json_on_literals
returns-clause-low c = refl

pub returns-clause-high : goal.returns-clause-high
unfolding serde_json_on_literals
returns-clause-high c = refl

pub returns-clause-outside : goal.returns-clause-outside
unfolding serde_json_on_literals
returns-clause-outside c = refl

pub returns-clause-texts : goal.returns-clause-texts
unfolding serde_json_on_literals
returns-clause-texts c = refl

pub returns-clause-no_texts : goal.returns-clause-no_texts
unfolding serde_json_on_literals
returns-clause-no_texts c = refl

pub returns-clause-beside : goal.returns-clause-beside
unfolding serde_json_on_literals
returns-clause-beside c = refl

pub returns-clause-first : goal.returns-clause-first
unfolding serde_json_on_literals
returns-clause-first c = refl

pub returns-clause-not_beside : goal.returns-clause-not_beside
unfolding serde_json_on_literals
returns-clause-not_beside c = refl
