use Rattle.std.proofs.Common.{length}
use Rattle.cedar_typechecker_environments.specs.Merged.{common}
use Rattle.cedar_typechecker_environments.proofs.Copies.{Copied}
use Rattle.cedar_typechecker_environments.proofs.merging.copies_of_both.Given as goal

abbrev pub invariant-loop-key : goal.invariant-loop-key
invariant-loop-key g l = Copied g.K.Clone.is_clone (common g.K.Ord.cmp l.left l.right) (common g.K.Ord.cmp l.both.left.now l.both.right.now) l.made.items

abbrev pub decreases-loop-key : goal.decreases-loop-key
decreases-loop-key g l = length (common g.K.Ord.cmp l.both.left.now l.both.right.now)
