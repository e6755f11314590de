use Rattle.cedar_typechecker_model.proofs.Moved.Policies.{order_passes, order_finds}
use Rattle.cedar_typechecker_model.proofs.laws.order_of_declarations_is_free.Goals as goal

pub returns-clause-typing : goal.returns-clause-typing
returns-clause-typing c = order_passes

pub returns-clause-levels : goal.returns-clause-levels
returns-clause-levels c = order_finds
