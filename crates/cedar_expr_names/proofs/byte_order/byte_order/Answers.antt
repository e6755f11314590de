use Rattle.std.proofs.Common.{◌<◌, length, sym, arith}
use Rattle.std.proofs.lemmas.List.{drop_more, drop_all}
use Rattle.cedar_expr_names.proofs.byte_order.byte_order.Goals as goal

pub returns-then-i-b : goal.returns-then-i-b
returns-then-i-b c = sym (rw (drop_more c.args.a.now _ 0 c.loop-i-test.true, drop_all _ c.args.b.now c.if-i-b.true) at c.loop-i.invariant.1)

pub returns-then-a-b : goal.returns-then-a-b
returns-then-a-b c =
    let more : c.loop-i.i < length c.args.b.now = omega arith in
    sym (rw (drop_all _ c.args.a.now c.loop-i-test.false, drop_more c.args.b.now _ 0 more) at c.loop-i.invariant.1)
