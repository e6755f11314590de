use Rattle.cedar_typechecker_model.proofs.More.{more_facts_keep_types}
use Rattle.cedar_typechecker_model.proofs.laws.more_facts_keep_types.Goals as goal

pub returns : goal.returns
returns c = more_facts_keep_types
