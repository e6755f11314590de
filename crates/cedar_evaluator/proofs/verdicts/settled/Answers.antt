use Rattle.cedar_evaluator.proofs.Told.{told_true, told_false}
use Rattle.cedar_evaluator.proofs.verdicts.settled.Goals as goal

pub returns-then-b : goal.returns-then-b
returns-then-b c = λ f l h. told_true f l c.args.b h c.if-b.true

pub returns-else-b : goal.returns-else-b
returns-else-b c = λ f l h. told_false f l c.args.b h c.if-b.false
