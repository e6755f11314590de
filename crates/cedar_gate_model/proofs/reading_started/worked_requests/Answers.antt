use Rattle.std.proofs.Common.{refl}
use Rattle.serde_json.proofs.OnLiterals.{serde_json_on_literals}
use Rattle.cedar_gate_model.proofs.reading_started.worked_requests.Goals as goal

pub returns-clause-known : goal.returns-clause-known
unfolding serde_json_on_literals
returns-clause-known c = refl

pub returns-clause-unknown : goal.returns-clause-unknown
unfolding serde_json_on_literals
returns-clause-unknown c = refl

pub returns-clause-typed : goal.returns-clause-typed
unfolding serde_json_on_literals
returns-clause-typed c = refl

pub returns-clause-no_entries : goal.returns-clause-no_entries
unfolding serde_json_on_literals
returns-clause-no_entries c = refl

pub returns-clause-request : goal.returns-clause-request
unfolding serde_json_on_literals
returns-clause-request c = refl

pub returns-clause-with_context : goal.returns-clause-with_context
unfolding serde_json_on_literals
returns-clause-with_context c = refl

pub returns-clause-no_requests : goal.returns-clause-no_requests
unfolding serde_json_on_literals
returns-clause-no_requests c = refl
