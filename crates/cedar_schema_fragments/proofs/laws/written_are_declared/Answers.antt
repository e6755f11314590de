use Rattle.cedar_schema_fragments.proofs.WrittenSets.{sets_have_types, sets_have_actions}
use Rattle.cedar_schema_fragments.proofs.laws.written_are_declared.Goals as goal

pub returns-clause-types : goal.returns-clause-types
returns-clause-types c = sets_have_types

pub returns-clause-actions : goal.returns-clause-actions
returns-clause-actions c = sets_have_actions
