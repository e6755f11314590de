use Rattle.std.proofs.Common.{refl}
use Rattle.cedargate_functions.proofs.Answered.{label_stored}
use Rattle.cedargate_functions.proofs.Made.{label_if_made}
use Rattle.cedargate_functions.proofs.table.label_function.Goals as goal

pub unary-requires : goal.unary-requires
unary-requires g c = label_stored _ _ _ c.requires.callable refl c.requires.answers

pub returns-clause-made : goal.returns-clause-made
returns-clause-made g c = label_if_made _ c.unary.result c.requires.answers c.unary.ensures.answers
