use Rattle.std.proofs.Common.{arith}
use Rattle.std.proofs.lemmas.Grind.{common_steps}
use Rattle.cedar_schema_builder.proofs.gathered.with_namespace.Goals as goal

pub returns-clause-commons : goal.returns-clause-commons
returns-clause-commons c = grind (arith, common_steps)

pub returns-clause-entities : goal.returns-clause-entities
returns-clause-entities c = grind (arith, common_steps)

pub returns-clause-actions : goal.returns-clause-actions
returns-clause-actions c = grind (arith, common_steps)
