use Rattle.cedar_expr_values.proofs.Ranged.{other_in_range}
use Rattle.cedar_expr_values.proofs.value.ranges.literal_is_in_range.Goals as goal

pub returns-in_default : goal.returns-in_default
returns-in_default c = other_in_range c.args.literal.now c.in_default.not-Long
