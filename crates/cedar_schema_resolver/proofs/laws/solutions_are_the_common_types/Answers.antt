use Rattle.cedar_schema_resolver.proofs.Declared.{solution, type_resolved}
use Rattle.cedar_schema_resolver.proofs.laws.solutions_are_the_common_types.Goals as goal

pub returns-clause-commons : goal.returns-clause-commons
returns-clause-commons c = solution c.resolved_types_are_declared.ensures.types

pub returns-clause-types : goal.returns-clause-types
returns-clause-types c = type_resolved c.resolved_types_are_declared.ensures.types
