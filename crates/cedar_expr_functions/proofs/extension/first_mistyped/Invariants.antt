use Rattle.std.proofs.Common.{◌≡◌, map, drop}
use Rattle.cedar_expr_values.specs.Types.{core_of}
use Rattle.cedar_expr_functions.specs.Signatures.{bare_values, first_mistyped}
use Rattle.cedar_expr_functions.proofs.extension.first_mistyped.Given as goal

abbrev pub invariant-loop-arg : goal.invariant-loop-arg
invariant-loop-arg l = first_mistyped (map core_of l.due) (bare_values (drop l.arg-index l.args)) ≡ first_mistyped (map core_of l.fn.types) (bare_values l.fn.args)
