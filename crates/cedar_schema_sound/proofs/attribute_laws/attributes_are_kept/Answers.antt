use Rattle.cedar_schema_sound.proofs.Same.{attributes_same, may_have_same}
use Rattle.cedar_schema_sound.proofs.attribute_laws.attributes_are_kept.Goals as goal

pub returns-clause-declared : goal.returns-clause-declared
returns-clause-declared c = attributes_same c.declarations_are_kept.ensures.types c.declarations_are_kept.ensures.found_types

pub returns-clause-may_have : goal.returns-clause-may_have
returns-clause-may_have c = may_have_same c.declarations_are_kept.ensures.types c.declarations_are_kept.ensures.found_types
