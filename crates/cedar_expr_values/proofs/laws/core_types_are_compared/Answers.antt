-- Core types are compared as the model's.
use Rattle.cedar_expr_values.proofs.CoreTypes.{types_cmp_is, types_eq_is, types_hashed}
use Rattle.cedar_expr_values.proofs.laws.core_types_are_compared.Goals as goal

pub returns-clause-order : goal.returns-clause-order
returns-clause-order c = types_cmp_is

pub returns-clause-equality : goal.returns-clause-equality
returns-clause-equality c = types_eq_is

pub returns-clause-hash : goal.returns-clause-hash
returns-clause-hash c = types_hashed
