use Rattle.std.proofs.Common.{subst}
use Rattle.cedar_evaluator_errors.specs.Outcomes.{Leaves}
use Rattle.cedar_evaluator_core.proofs.Gathered.{is_longer}
use Rattle.cedar_evaluator_core.proofs.gathering.with_next.Goals as goal

pub returns : goal.returns
returns c = λ l h. is_longer c.args.parts.items l c.in_ok-next.field-0 c.push.new.self (subst (Leaves l) c.in_ok-next.was h) c.in_ok-push.ensures.items
