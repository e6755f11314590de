-- The type of a value says so.
use Rattle.cedar_expr_values.specs.Members.{value_kept}
use Rattle.cedar_expr_values.proofs.laws.values_are_canonical.Goals as goal

pub returns : goal.returns
returns g c = value_kept g.X.ExtensionValue.seen
