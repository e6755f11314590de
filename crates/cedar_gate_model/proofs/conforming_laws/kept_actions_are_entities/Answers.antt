use Rattle.cedar_gate_model.proofs.Actions.{kept_are_entities}
use Rattle.cedar_gate_model.proofs.conforming_laws.kept_actions_are_entities.Goals as goal

pub returns : goal.returns
returns c = kept_are_entities
