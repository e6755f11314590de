use Rattle.std.proofs.Common.{refl}
use Rattle.serde_json.proofs.OnLiterals.{serde_json_on_literals}
use Rattle.cedar_gate_model.proofs.reading_worked.worked_attributes.Goals as goal

pub returns-clause-get : goal.returns-clause-get
unfolding serde_json_on_literals
returns-clause-get c = refl

pub returns-clause-has : goal.returns-clause-has
unfolding serde_json_on_literals
returns-clause-has c = refl

pub returns-clause-has_path : goal.returns-clause-has_path
unfolding serde_json_on_literals
returns-clause-has_path c = refl

pub returns-clause-is_kind : goal.returns-clause-is_kind
unfolding serde_json_on_literals
returns-clause-is_kind c = refl

pub returns-clause-no_attributes : goal.returns-clause-no_attributes
unfolding serde_json_on_literals
returns-clause-no_attributes c = refl

pub returns-clause-no_kinds : goal.returns-clause-no_kinds
unfolding serde_json_on_literals
returns-clause-no_kinds c = refl
