use Rattle.cedar_evaluator_reads.proofs.Found.{expr_is}
use Rattle.cedar_evaluator_reads.proofs.seen.field_expr.Goals as goal

pub returns : goal.returns
returns c = expr_is c.args.name.now c.args.fields.now.entries c.get.result c.get.ensures.value
