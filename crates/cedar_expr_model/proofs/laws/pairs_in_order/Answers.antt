use Rattle.cedar_expr_model.proofs.Ordering.{in_order_rises, in_order_finds, in_order_stays}
use Rattle.cedar_expr_model.proofs.laws.pairs_in_order.Goals as goal

pub returns-clause-rise : goal.returns-clause-rise
returns-clause-rise a c = in_order_rises

pub returns-clause-finds : goal.returns-clause-finds
returns-clause-finds a c = in_order_finds

pub returns-clause-stays : goal.returns-clause-stays
returns-clause-stays a c = in_order_stays
