use Rattle.cedar_expr_model.proofs.Agreeing.{substitution_agrees}
use Rattle.cedar_expr_model.proofs.laws.lawful_builders_agree.Goals as goal

pub returns : goal.returns
returns b c = substitution_agrees
