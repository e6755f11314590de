use Rattle.std.proofs.Common.{arith}
use Rattle.std.proofs.lemmas.Grind.{common_steps}
use Rattle.cedar_schema_types.proofs.reading.core_union.Goals as goal

pub returns-in_ok-clone-in-Some-clause-read : goal.returns-in_ok-clone-in-Some-clause-read
returns-in_ok-clone-in-Some-clause-read c = grind (arith, common_steps)
