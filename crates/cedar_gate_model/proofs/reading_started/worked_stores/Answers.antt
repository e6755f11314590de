use Rattle.std.proofs.Common.{refl}
use Rattle.serde_json.proofs.OnLiterals.{serde_json_on_literals}
use Rattle.cedar_gate_model.proofs.reading_started.worked_stores.Goals as goal

pub returns-clause-bare : goal.returns-clause-bare
unfolding serde_json_on_literals
returns-clause-bare c = refl

pub returns-clause-full : goal.returns-clause-full
unfolding serde_json_on_literals
returns-clause-full c = refl

pub returns-clause-parts : goal.returns-clause-parts
unfolding serde_json_on_literals
returns-clause-parts c = refl

pub returns-clause-no_parts : goal.returns-clause-no_parts
unfolding serde_json_on_literals
returns-clause-no_parts c = refl

pub returns-clause-no_entities : goal.returns-clause-no_entities
unfolding serde_json_on_literals
returns-clause-no_entities c = refl

pub returns-clause-store : goal.returns-clause-store
unfolding serde_json_on_literals
returns-clause-store c = refl

pub returns-clause-apart : goal.returns-clause-apart
unfolding serde_json_on_literals
returns-clause-apart c = refl

pub returns-clause-repeated : goal.returns-clause-repeated
unfolding serde_json_on_literals
returns-clause-repeated c = refl
