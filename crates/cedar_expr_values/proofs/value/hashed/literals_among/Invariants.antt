use Rattle.std.proofs.Common.{take}
use Rattle.cedar_expr_values.specs.Hashed.{HoldsThose}
use Rattle.cedar_expr_values.proofs.value.hashed.literals_among.Given as goal

abbrev pub invariant-loop-value : goal.invariant-loop-value
invariant-loop-value g l = HoldsThose g.X.ExtensionValue.seen l.literals (take l.value-index l.values)
