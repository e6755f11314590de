use Rattle.std.proofs.Common.{refl}
use Rattle.serde_json.proofs.OnLiterals.{serde_json_on_literals}
use Rattle.cedar_gate_model.proofs.reading_worked.worked_annotations.Goals as goal

pub returns-clause-word : goal.returns-clause-word
unfolding serde_json_on_literals
returns-clause-word c = refl

pub returns-clause-set : goal.returns-clause-set
unfolding serde_json_on_literals
returns-clause-set c = refl

pub returns-clause-words : goal.returns-clause-words
unfolding serde_json_on_literals
returns-clause-words c = refl

pub returns-clause-entity : goal.returns-clause-entity
unfolding serde_json_on_literals
returns-clause-entity c = refl

pub returns-clause-extension : goal.returns-clause-extension
unfolding serde_json_on_literals
returns-clause-extension c = refl

pub returns-clause-no_types : goal.returns-clause-no_types
unfolding serde_json_on_literals
returns-clause-no_types c = refl
