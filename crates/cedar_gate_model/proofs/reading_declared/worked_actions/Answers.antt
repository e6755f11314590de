use Rattle.std.proofs.Common.{refl}
use Rattle.serde_json.proofs.OnLiterals.{serde_json_on_literals}
use Rattle.cedar_gate_model.proofs.reading_declared.worked_actions.Goals as goal

pub returns-clause-bare : goal.returns-clause-bare
unfolding serde_json_on_literals
returns-clause-bare c = refl

pub returns-clause-parents : goal.returns-clause-parents
unfolding serde_json_on_literals
returns-clause-parents c = refl

pub returns-clause-lists : goal.returns-clause-lists
unfolding serde_json_on_literals
returns-clause-lists c = refl

pub returns-clause-context : goal.returns-clause-context
unfolding serde_json_on_literals
returns-clause-context c = refl

pub returns-clause-any_id : goal.returns-clause-any_id
unfolding serde_json_on_literals
returns-clause-any_id c = refl

pub returns-clause-no_actions : goal.returns-clause-no_actions
unfolding serde_json_on_literals
returns-clause-no_actions c = refl
