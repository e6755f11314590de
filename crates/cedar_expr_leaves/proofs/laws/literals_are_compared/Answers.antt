-- Literals are compared as the model's, and those that are the same there are hashed alike.
use Rattle.cedar_expr_leaves.proofs.Literals.{literals_cmp_is, literals_eq_is, literals_hashed}
use Rattle.cedar_expr_leaves.proofs.laws.literals_are_compared.Goals as goal

pub returns-clause-order : goal.returns-clause-order
returns-clause-order c = literals_cmp_is

pub returns-clause-equality : goal.returns-clause-equality
returns-clause-equality c = literals_eq_is

pub returns-clause-hash : goal.returns-clause-hash
returns-clause-hash c = literals_hashed
