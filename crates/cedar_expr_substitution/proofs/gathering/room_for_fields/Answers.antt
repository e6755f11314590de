use Rattle.cedar_expr_values.proofs.Ascending.{names_ascend}
use Rattle.cedar_expr_substitution.proofs.gathering.room_for_fields.Goals as goal

pub returns-clause-rising : goal.returns-clause-rising
returns-clause-rising g c = names_ascend c.args.fields.now.entries c.len.ensures.ordered
