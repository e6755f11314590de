use Rattle.std.specs.BTreeMap.{get}
use Rattle.cedar_schema_built.proofs.Adding.{taken}
use Rattle.cedar_schema_built.proofs.above.take_row.Goals as goal

pub returns-in-Some-clause-others : goal.returns-in-Some-clause-others
returns-in-Some-clause-others g c = taken g.K.Ord.cmp g.met.K.Ord.total (get g.K.Ord.cmp c.args.above.now) (get g.K.Ord.cmp c.remove.new.self) c.args.key.now c.remove.ensures.updates.0
