use Rattle.std.proofs.Common.{refl}
use Rattle.cedar_typechecker_operators.proofs.paths.noted.Goals as goal

pub returns : goal.returns
returns c = (refl, refl, c.in_ok-fact.field-0, c.in_ok-fact.ensures, c.in_ok-push.ensures.items)
