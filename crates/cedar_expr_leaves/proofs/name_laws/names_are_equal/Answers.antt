-- Names with one text are one name.
use Rattle.cedar_expr_names.proofs.Equality.{names_eq_is, uids_eq_is}
use Rattle.cedar_expr_leaves.proofs.name_laws.names_are_equal.Goals as goal

pub returns-clause-internal : goal.returns-clause-internal
returns-clause-internal c = names_eq_is

pub returns-clause-plain : goal.returns-clause-plain
returns-clause-plain c = λ m n. names_eq_is m.internal n.internal

pub returns-clause-types : goal.returns-clause-types
returns-clause-types c = λ s t. names_eq_is s.0.internal t.0.internal

pub returns-clause-uids : goal.returns-clause-uids
returns-clause-uids c = uids_eq_is
