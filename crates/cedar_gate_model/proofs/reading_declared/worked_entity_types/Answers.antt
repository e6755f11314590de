use Rattle.std.proofs.Common.{refl}
use Rattle.serde_json.proofs.OnLiterals.{serde_json_on_literals}
use Rattle.cedar_gate_model.proofs.reading_declared.worked_entity_types.Goals as goal

pub returns-clause-bare : goal.returns-clause-bare
unfolding serde_json_on_literals
returns-clause-bare c = refl

pub returns-clause-standard : goal.returns-clause-standard
unfolding serde_json_on_literals
returns-clause-standard c = refl

pub returns-clause-enumerated : goal.returns-clause-enumerated
unfolding serde_json_on_literals
returns-clause-enumerated c = refl

pub returns-clause-external : goal.returns-clause-external
unfolding serde_json_on_literals
returns-clause-external c = refl

pub returns-clause-no_kinds : goal.returns-clause-no_kinds
unfolding serde_json_on_literals
returns-clause-no_kinds c = refl

pub returns-clause-named : goal.returns-clause-named
unfolding serde_json_on_literals
returns-clause-named c = refl

pub returns-clause-reserved : goal.returns-clause-reserved
unfolding serde_json_on_literals
returns-clause-reserved c = refl

pub returns-clause-not_named : goal.returns-clause-not_named
unfolding serde_json_on_literals
returns-clause-not_named c = refl

pub returns-clause-no_word : goal.returns-clause-no_word
unfolding serde_json_on_literals
returns-clause-no_word c = refl

pub returns-clause-ids : goal.returns-clause-ids
unfolding serde_json_on_literals
returns-clause-ids c = refl

pub returns-clause-no_ids : goal.returns-clause-no_ids
unfolding serde_json_on_literals
returns-clause-no_ids c = refl

pub returns-clause-common : goal.returns-clause-common
unfolding serde_json_on_literals
returns-clause-common c = refl

pub returns-clause-not_common : goal.returns-clause-not_common
unfolding serde_json_on_literals
returns-clause-not_common c = refl

pub returns-clause-common_not_named : goal.returns-clause-common_not_named
unfolding serde_json_on_literals
returns-clause-common_not_named c = refl
