use Rattle.std.proofs.Common.{refl}
use Rattle.serde_json.proofs.OnLiterals.{serde_json_on_literals}
use Rattle.cedar_gate_model.proofs.reading_declared.worked_policies.Goals as goal

pub returns-clause-least : goal.returns-clause-least
unfolding serde_json_on_literals
returns-clause-least c = refl

pub returns-clause-forbids : goal.returns-clause-forbids
unfolding serde_json_on_literals
returns-clause-forbids c = refl

pub returns-clause-parts : goal.returns-clause-parts
unfolding serde_json_on_literals
returns-clause-parts c = refl

pub returns-clause-body : goal.returns-clause-body
unfolding serde_json_on_literals
returns-clause-body c = refl

pub returns-clause-rem_body : goal.returns-clause-rem_body
unfolding serde_json_on_literals
returns-clause-rem_body c = refl

pub returns-clause-no_rem_body : goal.returns-clause-no_rem_body
unfolding serde_json_on_literals
returns-clause-no_rem_body c = refl

pub returns-clause-written_body : goal.returns-clause-written_body
unfolding serde_json_on_literals
returns-clause-written_body c = refl

pub returns-clause-link : goal.returns-clause-link
unfolding serde_json_on_literals
returns-clause-link c = refl

pub returns-clause-resource_link : goal.returns-clause-resource_link
unfolding serde_json_on_literals
returns-clause-resource_link c = refl

pub returns-clause-no_link : goal.returns-clause-no_link
unfolding serde_json_on_literals
returns-clause-no_link c = refl

pub returns-clause-no_links : goal.returns-clause-no_links
unfolding serde_json_on_literals
returns-clause-no_links c = refl

pub returns-clause-no_policies : goal.returns-clause-no_policies
unfolding serde_json_on_literals
returns-clause-no_policies c = refl
