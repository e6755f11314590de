use Rattle.cedar_store_model.proofs.Extends.{more_keeps}
use Rattle.cedar_store_model.proofs.Growing.{looks_grow}
use Rattle.cedar_store_model.proofs.laws.more_knowledge_keeps_the_meaning.Goals as goal

pub returns-clause-outcomes : goal.returns-clause-outcomes
returns-clause-outcomes c = more_keeps

pub returns-clause-lookups : goal.returns-clause-lookups
returns-clause-lookups c = looks_grow
