use Rattle.std.proofs.Common.{refl}
use Rattle.serde_json.proofs.OnLiterals.{serde_json_on_literals}
use Rattle.cedar_gate_model.proofs.reading_declared.worked_scopes.Goals as goal

pub returns-clause-eq : goal.returns-clause-eq
unfolding serde_json_on_literals
returns-clause-eq c = refl

pub returns-clause-slot : goal.returns-clause-slot
unfolding serde_json_on_literals
returns-clause-slot c = refl

pub returns-clause-is_in : goal.returns-clause-is_in
unfolding serde_json_on_literals
returns-clause-is_in c = refl

pub returns-clause-is_kind : goal.returns-clause-is_kind
unfolding serde_json_on_literals
returns-clause-is_kind c = refl

pub returns-clause-is_kind_in : goal.returns-clause-is_kind_in
unfolding serde_json_on_literals
returns-clause-is_kind_in c = refl

pub returns-clause-no_scopes : goal.returns-clause-no_scopes
unfolding serde_json_on_literals
returns-clause-no_scopes c = refl

pub returns-clause-target : goal.returns-clause-target
unfolding serde_json_on_literals
returns-clause-target c = refl

pub returns-clause-named : goal.returns-clause-named
unfolding serde_json_on_literals
returns-clause-named c = refl

pub returns-clause-no_targets : goal.returns-clause-no_targets
unfolding serde_json_on_literals
returns-clause-no_targets c = refl

pub returns-clause-action : goal.returns-clause-action
unfolding serde_json_on_literals
returns-clause-action c = refl

pub returns-clause-actions : goal.returns-clause-actions
unfolding serde_json_on_literals
returns-clause-actions c = refl

pub returns-clause-no_action : goal.returns-clause-no_action
unfolding serde_json_on_literals
returns-clause-no_action c = refl

pub returns-clause-no_action_scopes : goal.returns-clause-no_action_scopes
unfolding serde_json_on_literals
returns-clause-no_action_scopes c = refl
