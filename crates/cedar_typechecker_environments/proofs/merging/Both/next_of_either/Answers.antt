use Rattle.cedar_typechecker_environments.proofs.Merges.{first_alone}
use Rattle.cedar_typechecker_environments.proofs.merging.Both.next_of_either.Goals as goal

pub returns-in_default-split_first-2 : goal.returns-in_default-split_first-2
returns-in_default-split_first-2 g c =
    first_alone g.K.Ord.cmp c.args.self.now.left.now c.args.self.now.right.now c.in-Some.others.now c.in-Some.first.now c.in-Some.ensures.cases.0 c.in_default-split_first-2.ensures.cases
