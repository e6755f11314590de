use Rattle.cedar_expr_model.proofs.Substituting.{substituted_built, unbound_stays, bound_leaves_none}
use Rattle.cedar_expr_model.proofs.laws.substitution_binds.Goals as goal

pub returns-clause-form : goal.returns-clause-form
returns-clause-form c = substituted_built

pub returns-clause-unbound : goal.returns-clause-unbound
returns-clause-unbound c = unbound_stays

pub returns-clause-bound : goal.returns-clause-bound
returns-clause-bound c = bound_leaves_none
