use Rattle.std.proofs.Common.{◌≡◌, ◌≤◌, ◌||◌, length}
use Rattle.std.specs.HashSet.{spare}
use Rattle.std.specs.Set.{is_member}
use Rattle.cedar_typechecker_policies.proofs.sets.add_all.Given as goal

abbrev pub invariant-loop-key : goal.invariant-loop-key
invariant-loop-key g l =
    (length l.keys.items ≤ spare l.set)
    × ((q : _) → (is_member g.K.PartialEq.eq l.set.keys q || is_member g.K.PartialEq.eq l.keys.items q) ≡ (is_member g.K.PartialEq.eq l.initial.set.keys q || is_member g.K.PartialEq.eq l.initial.keys.items q))

abbrev pub decreases-loop-key : goal.decreases-loop-key
decreases-loop-key g l = length l.keys.items
