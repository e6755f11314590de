use Rattle.std.proofs.Common.{refl}
use Rattle.serde_json.proofs.OnLiterals.{serde_json_on_literals}
use Rattle.cedar_gate_model.proofs.reading_worked.worked_leaves.Goals as goal

pub returns-clause-truth : goal.returns-clause-truth
unfolding serde_json_on_literals
returns-clause-truth c = refl

pub returns-clause-number : goal.returns-clause-number
unfolding serde_json_on_literals
returns-clause-number c = refl

pub returns-clause-greatest : goal.returns-clause-greatest
unfolding serde_json_on_literals
returns-clause-greatest c = refl

pub returns-clause-text : goal.returns-clause-text
unfolding serde_json_on_literals
returns-clause-text c = refl

pub returns-clause-uid : goal.returns-clause-uid
unfolding serde_json_on_literals
returns-clause-uid c = refl

pub returns-clause-variable : goal.returns-clause-variable
unfolding serde_json_on_literals
returns-clause-variable c = refl

pub returns-clause-the_context : goal.returns-clause-the_context
unfolding serde_json_on_literals
returns-clause-the_context c = refl

pub returns-clause-slot : goal.returns-clause-slot
unfolding serde_json_on_literals
returns-clause-slot c = refl

pub returns-clause-unknown : goal.returns-clause-unknown
unfolding serde_json_on_literals
returns-clause-unknown c = refl

pub returns-clause-typed : goal.returns-clause-typed
unfolding serde_json_on_literals
returns-clause-typed c = refl

pub returns-clause-no_numbers : goal.returns-clause-no_numbers
unfolding serde_json_on_literals
returns-clause-no_numbers c = refl

pub returns-clause-no_forms : goal.returns-clause-no_forms
unfolding serde_json_on_literals
returns-clause-no_forms c = refl

pub returns-clause-no_leaves : goal.returns-clause-no_leaves
unfolding serde_json_on_literals
returns-clause-no_leaves c = refl
