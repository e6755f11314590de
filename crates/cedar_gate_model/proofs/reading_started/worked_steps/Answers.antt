use Rattle.std.proofs.Common.{refl}
use Rattle.serde_json.proofs.OnLiterals.{serde_json_on_literals}
use Rattle.cedar_gate_model.proofs.reading_started.worked_steps.Goals as goal

pub returns-clause-load : goal.returns-clause-load
unfolding serde_json_on_literals
returns-clause-load c = refl

pub returns-clause-decide : goal.returns-clause-decide
unfolding serde_json_on_literals
returns-clause-decide c = refl

pub returns-clause-bind : goal.returns-clause-bind
unfolding serde_json_on_literals
returns-clause-bind c = refl

pub returns-clause-no_steps : goal.returns-clause-no_steps
unfolding serde_json_on_literals
returns-clause-no_steps c = refl

pub returns-clause-lacking : goal.returns-clause-lacking
unfolding serde_json_on_literals
returns-clause-lacking c = refl

pub returns-clause-several : goal.returns-clause-several
unfolding serde_json_on_literals
returns-clause-several c = refl

pub returns-clause-no_lists : goal.returns-clause-no_lists
unfolding serde_json_on_literals
returns-clause-no_lists c = refl
