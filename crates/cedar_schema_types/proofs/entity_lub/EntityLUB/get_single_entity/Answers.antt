use Rattle.std.proofs.Common.{arith}
use Rattle.std.proofs.lemmas.Grind.{common_steps}
use Rattle.cedar_schema_types.proofs.Unions.{not_single}
use Rattle.cedar_schema_types.proofs.entity_lub.EntityLUB.get_single_entity.Goals as goal

pub returns-else-len-eq1 : goal.returns-else-len-eq1
returns-else-len-eq1 c = not_single c.args.self.now.lub_elements.value.keys c.len.result (rw c.deref.ensures at c.len.ensures.len) c.if-len-eq1.false

pub returns-then-len-eq1 : goal.returns-then-len-eq1
returns-then-len-eq1 c = grind (arith, common_steps)
