use Rattle.cedar_schema_resolver.proofs.Declared.{uses_same}
use Rattle.cedar_schema_resolver.proofs.laws.uses_are_declared.Goals as goal

pub returns : goal.returns
returns c = uses_same c.resolved_types_are_declared.ensures.types
