use Rattle.std.proofs.Common.{◌≡◌, length}
use Rattle.cedar_schema_built.specs.Iterators.{actions_left}
use Rattle.cedar_schema_built.proofs.iterators.ActionsForIterator.next.Given as goal

abbrev pub invariant-loop-action : goal.invariant-loop-action
invariant-loop-action l = actions_left l.initial.self ≡ actions_left l.self

abbrev pub decreases-loop-action : goal.decreases-loop-action
decreases-loop-action l = length l.self.actions
