-- Names with one text are one name.
use Rattle.cedar_expr_names.proofs.Equality.{names_eq_is}
use Rattle.cedar_expr_leaves.proofs.raw_laws.raw_names_are_compared.Goals as goal

pub returns-clause-equality : goal.returns-clause-equality
returns-clause-equality c = λ m n. names_eq_is m.0 n.0
