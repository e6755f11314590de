use Rattle.cedar_expr_model.proofs.Building.{built_is_built, built_stays, built_twice}
use Rattle.cedar_expr_model.proofs.Agreeing.{trees_are_lawful}
use Rattle.cedar_expr_model.proofs.laws.built_trees_stay.Goals as goal

pub returns-clause-lawful : goal.returns-clause-lawful
returns-clause-lawful c = trees_are_lawful

pub returns-clause-form : goal.returns-clause-form
returns-clause-form c = built_is_built

pub returns-clause-stays : goal.returns-clause-stays
returns-clause-stays c = built_stays

pub returns-clause-twice : goal.returns-clause-twice
returns-clause-twice c = built_twice
