use Rattle.cedar_schema_model.proofs.Computed.{two_are_shown}
use Rattle.cedar_schema_model.proofs.texts_worked.worked_texts_with_parts.Goals as goal

pub returns-clause-two : goal.returns-clause-two
returns-clause-two c = two_are_shown
