use Rattle.cedar_schema_resolver.proofs.Declared.{refusals, written}
use Rattle.cedar_schema_resolver.proofs.laws.refusals_are_faults.Goals as goal

pub returns-clause-commons : goal.returns-clause-commons
returns-clause-commons c = λ d x e ts writes. refusals c.resolved_types_are_declared.ensures.types d e ts writes x

pub returns-clause-types : goal.returns-clause-types
returns-clause-types c = written c.resolved_types_are_declared.ensures.types
