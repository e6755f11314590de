use Rattle.cedar_schema_builder.proofs.Keeping.{built_is, order_is_free}
use Rattle.cedar_schema_builder.proofs.Matching.{built_alike}
use Rattle.cedar_schema_builder.proofs.resolved_laws.built_is_the_schema.Goals as goal

pub returns-clause-declared : goal.returns-clause-declared
returns-clause-declared c = built_is c.resolved_declarations_tell_the_schema.ensures c.pieces_are_kept.ensures

pub returns-clause-order : goal.returns-clause-order
returns-clause-order c = order_is_free

pub returns-clause-alike : goal.returns-clause-alike
returns-clause-alike c = built_alike
