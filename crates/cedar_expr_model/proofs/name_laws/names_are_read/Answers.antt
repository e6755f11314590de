use Rattle.cedar_expr_model.proofs.Reading.{names_are_read}
use Rattle.cedar_expr_model.proofs.name_laws.names_are_read.Goals as goal

pub returns : goal.returns
returns c = names_are_read
