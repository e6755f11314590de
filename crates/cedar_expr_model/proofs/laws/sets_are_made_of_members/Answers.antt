use Rattle.cedar_expr_model.proofs.Sets.{made_rises, made_canonical, made_Decides, made_same, made_of_rising}
use Rattle.cedar_expr_model.proofs.Rising.{member_Decides}
use Rattle.cedar_expr_model.proofs.laws.sets_are_made_of_members.Goals as goal

pub returns-clause-rise : goal.returns-clause-rise
returns-clause-rise c = made_rises

pub returns-clause-canonical : goal.returns-clause-canonical
returns-clause-canonical c = made_canonical

pub returns-clause-listed : goal.returns-clause-listed
returns-clause-listed c = made_Decides

pub returns-clause-members : goal.returns-clause-members
returns-clause-members c = member_Decides

pub returns-clause-same : goal.returns-clause-same
returns-clause-same c = made_same

pub returns-clause-again : goal.returns-clause-again
returns-clause-again c = made_of_rising
