use Rattle.std.proofs.Common.{refl}
use Rattle.serde_json.proofs.OnLiterals.{serde_json_on_literals}
use Rattle.cedar_gate_model.proofs.reading_worked.worked_uids.Goals as goal

pub returns-clause-uid : goal.returns-clause-uid
unfolding serde_json_on_literals
returns-clause-uid c = refl

pub returns-clause-any_id : goal.returns-clause-any_id
unfolding serde_json_on_literals
returns-clause-any_id c = refl

pub returns-clause-no_uids : goal.returns-clause-no_uids
unfolding serde_json_on_literals
returns-clause-no_uids c = refl

pub returns-clause-not_reserved : goal.returns-clause-not_reserved
unfolding serde_json_on_literals
returns-clause-not_reserved c = refl

pub returns-clause-declared : goal.returns-clause-declared
unfolding serde_json_on_literals
returns-clause-declared c = refl

pub returns-clause-not_declared : goal.returns-clause-not_declared
unfolding serde_json_on_literals
returns-clause-not_declared c = refl

pub returns-clause-list : goal.returns-clause-list
unfolding serde_json_on_literals
returns-clause-list c = refl

pub returns-clause-no_list : goal.returns-clause-no_list
unfolding serde_json_on_literals
returns-clause-no_list c = refl
