use Rattle.cedar_expr_values.specs.Extensions.{extension_of}
use Rattle.cedar_evaluator_reads.proofs.Found.{field_is}
use Rattle.cedar_evaluator_reads.proofs.seen.field.Goals as goal

pub returns : goal.returns
returns c = field_is extension_of c.args.name.now c.args.fields.now.entries c.get.result c.get.ensures.value
