use Rattle.std.proofs.Common.{◌≡◌, drop}
use Rattle.cedar_expr_values.specs.Hashed.{all_literals}
use Rattle.cedar_expr_values.proofs.Members.{listed}
use Rattle.cedar_expr_values.proofs.value.hashed.are_literals.Given as goal

abbrev pub invariant-loop-value : goal.invariant-loop-value
invariant-loop-value g l = all_literals (listed g.X.ExtensionValue.seen l.values) ≡ all_literals (listed g.X.ExtensionValue.seen (drop l.value-index l.values))
