use Rattle.cedar_expr_builders.proofs.Lawful.{refusals_agree}
use Rattle.cedar_expr_builders.proofs.laws.refusals_agree.Goals as goal

pub returns : goal.returns
returns g c = refusals_agree
