use Rattle.cedar_expr_model.proofs.Repeating.{repeats_decide, repeat_is_first}
use Rattle.cedar_expr_model.proofs.laws.repeats_decide.Goals as goal

pub returns-clause-none : goal.returns-clause-none
returns-clause-none a c = repeats_decide

pub returns-clause-first : goal.returns-clause-first
returns-clause-first a c = repeat_is_first
