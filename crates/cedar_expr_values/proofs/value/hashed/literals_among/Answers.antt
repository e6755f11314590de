use Rattle.cedar_expr_values.proofs.Hashing.{one_put}
use Rattle.cedar_expr_values.proofs.value.hashed.literals_among.Goals as goal

pub loop-value-preserved : goal.loop-value-preserved
loop-value-preserved g c =
    one_put g.X.ExtensionValue.seen c.loop-value.literals c.insert.new.self c.in_ok-clone.field-0 c.in-Lit.literal c.value-item.result c.args.values.now c.loop-value.value-index _ c.in-Lit.is
    c.in_ok-clone.ensures.cases c.in_ok-insert.ensures.updates.0 c.loop-value-test.true c.value-item.is c.loop-value.invariant
