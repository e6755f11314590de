-- Extension values of a table are compared by type and key.
use Rattle.cedar_expr_values.proofs.ExtensionValues.{ext_values_cmp_is, ext_values_eq_is, ext_values_hashed}
use Rattle.cedar_expr_values.proofs.laws.extension_values_are_compared.Goals as goal

pub returns-clause-order : goal.returns-clause-order
returns-clause-order c = ext_values_cmp_is

pub returns-clause-equality : goal.returns-clause-equality
returns-clause-equality c = ext_values_eq_is

pub returns-clause-hash : goal.returns-clause-hash
returns-clause-hash c = ext_values_hashed
