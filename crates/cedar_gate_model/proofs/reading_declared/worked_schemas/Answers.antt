use Rattle.std.proofs.Common.{refl}
use Rattle.serde_json.proofs.OnLiterals.{serde_json_on_literals}
use Rattle.cedar_gate_model.proofs.reading_declared.worked_schemas.Goals as goal

pub returns-clause-empty : goal.returns-clause-empty
unfolding serde_json_on_literals
returns-clause-empty c = refl

pub returns-clause-path : goal.returns-clause-path
unfolding serde_json_on_literals
returns-clause-path c = refl

pub returns-clause-reserved : goal.returns-clause-reserved
unfolding serde_json_on_literals
returns-clause-reserved c = refl

pub returns-clause-not_named : goal.returns-clause-not_named
unfolding serde_json_on_literals
returns-clause-not_named c = refl

pub returns-clause-two_namespaces : goal.returns-clause-two_namespaces
unfolding serde_json_on_literals
returns-clause-two_namespaces c = refl

pub returns-clause-two_fragments : goal.returns-clause-two_fragments
unfolding serde_json_on_literals
returns-clause-two_fragments c = refl

pub returns-clause-nothing : goal.returns-clause-nothing
unfolding serde_json_on_literals
returns-clause-nothing c = refl

pub returns-clause-no_schemas : goal.returns-clause-no_schemas
unfolding serde_json_on_literals
returns-clause-no_schemas c = refl

pub returns-clause-namespace : goal.returns-clause-namespace
unfolding serde_json_on_literals
returns-clause-namespace c = refl

pub returns-clause-no_namespaces : goal.returns-clause-no_namespaces
unfolding serde_json_on_literals
returns-clause-no_namespaces c = refl
