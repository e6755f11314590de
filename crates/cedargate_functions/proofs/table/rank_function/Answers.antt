use Rattle.std.proofs.Common.{Some, ap}
use Rattle.cedargate_functions.proofs.Answered.{rank_stored}
use Rattle.cedargate_functions.proofs.Made.{rank_if_made}
use Rattle.cedargate_functions.proofs.table.rank_function.Goals as goal

pub unary-requires : goal.unary-requires
unary-requires g c = rank_stored _ _ _ c.requires.callable (ap Some c.in_ok-given.ensures) c.requires.answers

pub returns-clause-made : goal.returns-clause-made
returns-clause-made g c = rank_if_made _ c.unary.result c.requires.answers c.unary.ensures.answers
