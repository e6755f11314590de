-- By the names and the annotations, which are compared as the model's.
use Rattle.cedar_expr_trees.specs.contracts.expr.UnknownOrd.TheImpl.Laws as order
use Rattle.cedar_expr.proofs.Compared.{unknowns_cmp_is}
use Rattle.cedar_expr.proofs.laws.unknowns_are_compared.Goals as goal

pub returns-clause-order : goal.returns-clause-order
returns-clause-order c = unknowns_cmp_is

pub returns-clause-equality : goal.returns-clause-equality
returns-clause-equality c = order.matches_eq-law
