use Rattle.std.proofs.Common.{arith}
use Rattle.std.proofs.lemmas.Grind.{common_steps}
use Rattle.cedar_schema_types.specs.Types.{type_of}
use Rattle.cedar_schema_joins.specs.Modes.{mode_of}
use Rattle.cedar_schema_joins.proofs.Reduced.{stops_at}
use Rattle.cedar_schema_joins.proofs.joins.reduce_to_least_upper_bound.Goals as goal

pub returns-in-None : goal.returns-in-None
returns-in-None c =
    stops_at (mode_of c.args.mode) c.args.tys.now c.loop-ty.ty-index c.ty-item.result (type_of c.loop-ty.joined) c.in_ok-next.field-0 _ c.loop-ty-test.true c.ty-item.is c.loop-ty.invariant c.in_ok-next.ensures c.in-None.is

pub loop-ty-preserved : goal.loop-ty-preserved
loop-ty-preserved c = grind (arith, common_steps)

pub returns : goal.returns
returns c = grind (arith, common_steps)
