-- Each part is told by its texts.
use Rattle.cedar_expr_leaves.specs.contracts.conditional_name.ConditionalNameHash.TheImpl.Laws as hash
use Rattle.cedar_expr.proofs.Compared.{conditional_names_decide}
use Rattle.cedar_expr.proofs.laws.conditional_names_are_compared.Goals as goal

pub returns-clause-equality : goal.returns-clause-equality
returns-clause-equality c = conditional_names_decide

pub returns-clause-hash : goal.returns-clause-hash
returns-clause-hash c = hash.respects_eq-law
