use Rattle.std.proofs.lemmas.Grind.{common_steps}
use Rattle.std.proofs.Common.{sym, ◌∙◌, arith}
use Rattle.cedar_expr_values.proofs.Walked.{none_at_less, none_at_greater, none_in_nothing}
use Rattle.cedar_expr_values.proofs.rising.none_among.Goals as goal

pub loop-first-preserved-in-Less : goal.loop-first-preserved-in-Less
loop-first-preserved-in-Less g c s =
    let i = c.loop-first.invariant s in
    let w = c.in-Some-Some in
    let k = none_at_less g.met.T.Ord.total c.loop-first.left.now c.loop-first.right.now w.first.now w.second.now w.others.now w.more.now w.ensures.cases.0 w.ensures'.cases.0 c.in-Less.ensures i.0 in
    (k.0, k.1 ∙ i.1)

pub loop-first-preserved : goal.loop-first-preserved
loop-first-preserved g c s =
    let i = c.loop-first.invariant s in
    let w = c.in-Some-Some in
    let k = none_at_greater g.met.T.Ord.total c.loop-first.left.now c.loop-first.right.now w.first.now w.second.now w.others.now w.more.now w.ensures.cases.0 w.ensures'.cases.0
    c.in-Greater.ensures i.0 in
    (k.0, k.1 ∙ i.1)

pub returns-in_default : goal.returns-in_default
returns-in_default g c s =
    sym (none_in_nothing g.met.T.Ord.total c.loop-first.left.now c.loop-first.right.now c.in_default.ensures'.cases) ∙ (c.loop-first.invariant s).1

pub returns-in_default-2 : goal.returns-in_default-2
returns-in_default-2 g c = grind (arith, common_steps)
