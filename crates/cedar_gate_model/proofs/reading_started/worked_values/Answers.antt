use Rattle.std.proofs.Common.{refl}
use Rattle.serde_json.proofs.OnLiterals.{serde_json_on_literals}
use Rattle.cedar_gate_model.proofs.reading_started.worked_values.Goals as goal

pub returns-clause-number : goal.returns-clause-number
unfolding serde_json_on_literals
returns-clause-number c = refl

pub returns-clause-folded : goal.returns-clause-folded
unfolding serde_json_on_literals
returns-clause-folded c = refl

pub returns-clause-set : goal.returns-clause-set
unfolding serde_json_on_literals
returns-clause-set c = refl

pub returns-clause-record : goal.returns-clause-record
unfolding serde_json_on_literals
returns-clause-record c = refl

pub returns-clause-extension : goal.returns-clause-extension
unfolding serde_json_on_literals
returns-clause-extension c = refl

pub returns-clause-fails : goal.returns-clause-fails
unfolding serde_json_on_literals
returns-clause-fails c = refl

pub returns-clause-not_restricted : goal.returns-clause-not_restricted
unfolding serde_json_on_literals
returns-clause-not_restricted c = refl

pub returns-clause-unknown : goal.returns-clause-unknown
unfolding serde_json_on_literals
returns-clause-unknown c = refl

pub returns-clause-unread : goal.returns-clause-unread
unfolding serde_json_on_literals
returns-clause-unread c = refl

pub returns-clause-deepest : goal.returns-clause-deepest
unfolding serde_json_on_literals
returns-clause-deepest c = refl

pub returns-clause-too_deep : goal.returns-clause-too_deep
unfolding serde_json_on_literals
returns-clause-too_deep c = refl
