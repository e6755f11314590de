use Rattle.cedar_schema_types.proofs.InUnions.{union_is_formed}
use Rattle.cedar_schema_types.proofs.entity_lub.EntityLUB.iter.Goals as goal

pub returns-clause-formed : goal.returns-clause-formed
returns-clause-formed c = union_is_formed c.args.self.now (rw c.deref.ensures at c.iter.ensures.ordered)
