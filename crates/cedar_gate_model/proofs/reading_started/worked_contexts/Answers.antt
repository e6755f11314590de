use Rattle.std.proofs.Common.{refl}
use Rattle.serde_json.proofs.OnLiterals.{serde_json_on_literals}
use Rattle.cedar_gate_model.proofs.reading_started.worked_contexts.Goals as goal

pub returns-clause-empty : goal.returns-clause-empty
unfolding serde_json_on_literals
returns-clause-empty c = refl

pub returns-clause-values : goal.returns-clause-values
unfolding serde_json_on_literals
returns-clause-values c = refl

pub returns-clause-an_unknown : goal.returns-clause-an_unknown
unfolding serde_json_on_literals
returns-clause-an_unknown c = refl

pub returns-clause-an_argument : goal.returns-clause-an_argument
unfolding serde_json_on_literals
returns-clause-an_argument c = refl

pub returns-clause-not_looked_up : goal.returns-clause-not_looked_up
unfolding serde_json_on_literals
returns-clause-not_looked_up c = refl

pub returns-clause-unknown : goal.returns-clause-unknown
unfolding serde_json_on_literals
returns-clause-unknown c = refl

pub returns-clause-fails : goal.returns-clause-fails
unfolding serde_json_on_literals
returns-clause-fails c = refl

pub returns-clause-not_restricted : goal.returns-clause-not_restricted
unfolding serde_json_on_literals
returns-clause-not_restricted c = refl

pub returns-clause-unread : goal.returns-clause-unread
unfolding serde_json_on_literals
returns-clause-unread c = refl

pub returns-clause-deepest : goal.returns-clause-deepest
unfolding serde_json_on_literals
returns-clause-deepest c = refl

pub returns-clause-too_deep : goal.returns-clause-too_deep
unfolding serde_json_on_literals
returns-clause-too_deep c = refl
