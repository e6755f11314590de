use Rattle.cedar_expr_model.proofs.SideBySide.{split_gives}
use Rattle.cedar_expr_partial.proofs.Parted.{expressions_are, all_kept}
use Rattle.cedar_expr_partial.proofs.laws.split_keeps_order.Goals as goal

pub returns-clause-values : goal.returns-clause-values
returns-clause-values c = split_gives

pub returns-clause-expressions : goal.returns-clause-expressions
returns-clause-expressions c = expressions_are

pub returns-clause-all : goal.returns-clause-all
returns-clause-all c = all_kept
