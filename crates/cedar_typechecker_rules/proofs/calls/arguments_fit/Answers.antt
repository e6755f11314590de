use Rattle.std.proofs.Common.{ap, map, drop, drop_of_length-le, arith}
use Rattle.cedar_schema_types.specs.Types.{type_of}
use Rattle.cedar_typechecker_rules.proofs.Fitting.{at_end}
use Rattle.cedar_typechecker_rules.proofs.calls.arguments_fit.Goals as goal

pub returns : goal.returns
returns c = at_end (map type_of c.loop-ty.due.now) _ _ c.loop-ty.invariant (ap (map _) (drop_of_length-le c.args.types.now (omega (arith, c.loop-ty-test.false))))
