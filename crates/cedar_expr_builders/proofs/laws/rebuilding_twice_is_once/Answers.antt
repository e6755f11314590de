use Rattle.cedar_expr_builders.proofs.Lawful.{rebuilds_once}
use Rattle.cedar_expr_builders.proofs.laws.rebuilding_twice_is_once.Goals as goal

pub returns : goal.returns
returns g c = rebuilds_once
