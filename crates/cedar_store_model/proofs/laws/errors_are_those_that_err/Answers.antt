use Rattle.cedar_store_model.proofs.Reports.{errors_are_those}
use Rattle.cedar_store_model.proofs.laws.errors_are_those_that_err.Goals as goal

pub returns : goal.returns
returns c = errors_are_those
