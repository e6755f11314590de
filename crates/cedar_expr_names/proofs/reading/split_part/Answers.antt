use Rattle.cedar_expr_names.proofs.Splitting.{split_is}
use Rattle.cedar_expr_names.proofs.reading.split_part.Goals as goal

pub returns-clause-first : goal.returns-clause-first
returns-clause-first c = split_is c.args.text.now c.split_once.result c.split_once.ensures.cases
