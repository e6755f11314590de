use Rattle.cedar_store_entities.proofs.Mapped.{maps, less, parts_finished, unfinished_less}
use Rattle.cedar_store_entities.proofs.laws.stores_are_maps.Goals as goal

pub returns-clause-distinct : goal.returns-clause-distinct
returns-clause-distinct c = maps

pub returns-clause-extended : goal.returns-clause-extended
returns-clause-extended c = less

pub returns-clause-parts : goal.returns-clause-parts
returns-clause-parts c = parts_finished

pub returns-clause-finished : goal.returns-clause-finished
returns-clause-finished c = unfinished_less
