use Rattle.std.proofs.Common.{refl}
use Rattle.serde_json.proofs.OnLiterals.{serde_json_on_literals}
use Rattle.cedar_gate_model.proofs.reading_worked.worked_parts.Goals as goal

pub returns-clause-call : goal.returns-clause-call
unfolding serde_json_on_literals
returns-clause-call c = refl

pub returns-clause-no_arguments : goal.returns-clause-no_arguments
unfolding serde_json_on_literals
returns-clause-no_arguments c = refl

pub returns-clause-set : goal.returns-clause-set
unfolding serde_json_on_literals
returns-clause-set c = refl

pub returns-clause-empty_set : goal.returns-clause-empty_set
unfolding serde_json_on_literals
returns-clause-empty_set c = refl

pub returns-clause-fields : goal.returns-clause-fields
unfolding serde_json_on_literals
returns-clause-fields c = refl

pub returns-clause-empty_record : goal.returns-clause-empty_record
unfolding serde_json_on_literals
returns-clause-empty_record c = refl

pub returns-clause-last_stands : goal.returns-clause-last_stands
unfolding serde_json_on_literals
returns-clause-last_stands c = refl

pub returns-clause-no_fields : goal.returns-clause-no_fields
unfolding serde_json_on_literals
returns-clause-no_fields c = refl

pub returns-clause-no_parts : goal.returns-clause-no_parts
unfolding serde_json_on_literals
returns-clause-no_parts c = refl
