use Rattle.cedar_expr_values.proofs.Pairs.{entries_more}
use Rattle.cedar_expr_values.proofs.fields.field_map.Goals as goal

pub loop-name-preserved-in_ok-insert : goal.loop-name-preserved-in_ok-insert
loop-name-preserved-in_ok-insert g c =
    entries_more c.in-Some.name c.in-Some.value c.loop-name.fields.entries c.insert.new.self.entries c.loop-name.yielded c.in_ok-insert.ensures.entries c.loop-name.invariant

pub loop-name-preserved : goal.loop-name-preserved
loop-name-preserved g c =
    entries_more c.in-Some.name c.in-Some.value c.loop-name.fields.entries c.insert.new.self.entries c.loop-name.yielded c.in_ok-insert.ensures.entries c.loop-name.invariant
