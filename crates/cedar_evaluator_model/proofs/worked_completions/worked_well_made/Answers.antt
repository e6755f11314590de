use Rattle.std.specs.Prelude.{codes, true, false}
use Rattle.std.proofs.Common.{◌≡◌, refl}
use Rattle.cedar_evaluator_model.proofs.worked_completions.worked_well_made.Goals as goal
use Rattle.cedar_evaluator_model.specs.Worked.{rank_function}

-- the value of `u` has members that fall
pub returns-clause-not_value : goal.returns-clause-not_value
returns-clause-not_value c h = let k : false ≡ true = (h.values (codes "u")).1 in cc

-- the table has `rank`, which takes the text and answers the value
pub returns-clause-rank : goal.returns-clause-rank
returns-clause-rank c = ((rank_function, refl, refl, refl), refl)
