use Rattle.std.proofs.Common.{rules}
use Rattle.cedargate_functions.proofs.Digits.{none_there}
use Rattle.cedargate_functions.proofs.numbers.rank_read.Goals as goal

pub returns-in-Err : goal.returns-in-Err
returns-in-Err c = none_there c.args.text.now c.parse.result c.in-Err.field-0 (search rules) c.parse.ensures.value.0 (cc)
