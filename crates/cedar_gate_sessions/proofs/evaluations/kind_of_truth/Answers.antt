use Rattle.cedar_gate_sessions.proofs.Told.{kind_true, kind_false}
use Rattle.cedar_gate_sessions.proofs.evaluations.kind_of_truth.Goals as goal

pub returns-then-b : goal.returns-then-b
returns-then-b c = λ l h. kind_true l c.args.b h c.if-b.true

pub returns-else-b : goal.returns-else-b
returns-else-b c = λ l h. kind_false l c.args.b h c.if-b.false
