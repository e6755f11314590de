use Rattle.std.proofs.lemmas.Grind.{common_steps}
use Rattle.std.proofs.Common.{◌∙◌, arith}
use Rattle.cedar_expr_values.proofs.Walked.{all_at_equal, all_at_greater}
use Rattle.cedar_expr_values.proofs.rising.all_among.Goals as goal

pub loop-first-preserved-in-Equal : goal.loop-first-preserved-in-Equal
loop-first-preserved-in-Equal g c s =
    let i = c.loop-first.invariant s in
    let k = all_at_equal g.met.T.Ord.total c.loop-first.left.now c.loop-first.right.now c.in-Some.first.now c.in-Some-split_first.second.now c.in-Some.others.now c.in-Some-split_first.more.now
    c.in-Some.ensures.cases.0 c.in-Some-split_first.ensures.cases.0 c.in-Equal.ensures i.0 in
    (k.0, k.1 ∙ i.1)

pub loop-first-preserved : goal.loop-first-preserved
loop-first-preserved g c s =
    let i = c.loop-first.invariant s in
    let k = all_at_greater g.met.T.Ord.total c.loop-first.left.now c.loop-first.right.now c.in-Some.first.now c.in-Some-split_first.second.now c.in-Some.others.now c.in-Some-split_first.more.now
    c.in-Some.ensures.cases.0 c.in-Some-split_first.ensures.cases.0 c.in-Greater.ensures i.0 in
    (k.0, k.1 ∙ i.1)

pub returns-in_default-split_first : goal.returns-in_default-split_first
returns-in_default-split_first g c = grind (arith, common_steps)

pub returns : goal.returns
returns g c = grind (arith, common_steps)
