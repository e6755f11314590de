use Rattle.std.proofs.Common.{refl}
use Rattle.serde_json.proofs.OnLiterals.{serde_json_on_literals}
use Rattle.cedar_gate_model.proofs.reading_declared.worked_types.Goals as goal

pub returns-clause-word : goal.returns-clause-word
unfolding serde_json_on_literals
returns-clause-word c = refl

pub returns-clause-words : goal.returns-clause-words
unfolding serde_json_on_literals
returns-clause-words c = refl

pub returns-clause-set : goal.returns-clause-set
unfolding serde_json_on_literals
returns-clause-set c = refl

pub returns-clause-record : goal.returns-clause-record
unfolding serde_json_on_literals
returns-clause-record c = refl

pub returns-clause-empty_record : goal.returns-clause-empty_record
unfolding serde_json_on_literals
returns-clause-empty_record c = refl

pub returns-clause-entity : goal.returns-clause-entity
unfolding serde_json_on_literals
returns-clause-entity c = refl

pub returns-clause-common : goal.returns-clause-common
unfolding serde_json_on_literals
returns-clause-common c = refl

pub returns-clause-extension : goal.returns-clause-extension
unfolding serde_json_on_literals
returns-clause-extension c = refl

pub returns-clause-no_words : goal.returns-clause-no_words
unfolding serde_json_on_literals
returns-clause-no_words c = refl

pub returns-clause-no_types : goal.returns-clause-no_types
unfolding serde_json_on_literals
returns-clause-no_types c = refl

pub returns-clause-fields : goal.returns-clause-fields
unfolding serde_json_on_literals
returns-clause-fields c = refl

pub returns-clause-no_fields : goal.returns-clause-no_fields
unfolding serde_json_on_literals
returns-clause-no_fields c = refl
