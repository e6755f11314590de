use Rattle.cedar_expr_builders.proofs.Lawful.{stays_lawful, makes_all}
use Rattle.cedar_expr_builders.proofs.laws.refusing_builders_are_lawful.Goals as goal

pub returns-clause-lawful : goal.returns-clause-lawful
returns-clause-lawful g c = stays_lawful

pub returns-clause-all : goal.returns-clause-all
returns-clause-all g c = makes_all
