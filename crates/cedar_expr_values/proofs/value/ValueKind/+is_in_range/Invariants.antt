use Rattle.std.proofs.Common.{◌≡◌, true, take}
use Rattle.cedar_expr_values.proofs.Ranged.{all_in_range}
use Rattle.cedar_expr_values.proofs.value.ValueKind.+is_in_range.Given as goal

abbrev pub invariant-loop-value : goal.invariant-loop-value
invariant-loop-value g l = all_in_range g.X.ExtensionValue.seen (take l.value-index l.value-items) ≡ true

abbrev pub invariant-loop-value-2 : goal.invariant-loop-value-2
invariant-loop-value-2 g l = all_in_range g.X.ExtensionValue.seen l.initial.value-iterator ≡ all_in_range g.X.ExtensionValue.seen l.value-iterator
