use Rattle.cedar_schema_assembly.proofs.Lines.{one_type_line}
use Rattle.cedar_schema_assembly.proofs.type_entries.with_parents.Goals as goal

pub loop-entry-preserved : goal.loop-entry-preserved
loop-entry-preserved c = one_type_line c.args.declared.now c.loop-entry.entry-index c.entry-item.result c.loop-entry.nodes.items c.push.new.self.items c.in_ok-name.name c.in_ok-parents_of.field-0 c.loop-entry-test.true c.entry-item.is c.loop-entry.invariant c.in_ok-push.ensures.items c.in_ok-name.ensures.cases.0 c.in_ok-parents_of.ensures
