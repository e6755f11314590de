use Rattle.cedar_expr_model.proofs.SideBySide.{subset_Decides, disjoint_Decides, split_gives}
use Rattle.cedar_expr_model.proofs.laws.side_by_side.Goals as goal

pub returns-clause-subset : goal.returns-clause-subset
returns-clause-subset c = subset_Decides

pub returns-clause-disjoint : goal.returns-clause-disjoint
returns-clause-disjoint c = disjoint_Decides

pub returns-clause-split : goal.returns-clause-split
returns-clause-split c = split_gives
