use Rattle.cedar_typechecker_model.proofs.SameCounts.{reported_is}
use Rattle.cedar_typechecker_model.proofs.report_laws.reported_are_violations.Goals as goal

pub returns : goal.returns
returns c = reported_is
