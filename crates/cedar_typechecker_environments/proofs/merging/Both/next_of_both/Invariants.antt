use Rattle.std.proofs.Common.{◌≡◌, ◌+◌, length}
use Rattle.cedar_typechecker_environments.specs.Merged.{common}
use Rattle.cedar_typechecker_environments.proofs.merging.Both.next_of_both.Given as goal

abbrev pub invariant-loop-first : goal.invariant-loop-first
invariant-loop-first g l = common g.K.Ord.cmp l.initial.self.left.now l.initial.self.right.now ≡ common g.K.Ord.cmp l.self.left.now l.self.right.now

abbrev pub decreases-loop-first : goal.decreases-loop-first
decreases-loop-first g l = length l.self.left.now + length l.self.right.now
