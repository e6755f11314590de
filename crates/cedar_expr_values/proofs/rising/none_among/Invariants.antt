use Rattle.std.proofs.Common.{◌≡◌, ◌+◌, length}
use Rattle.std.specs.List.Sorted.{IsStrictlySortedBy}
use Rattle.cedar_expr_values.specs.Rising.{none_among}
use Rattle.cedar_expr_values.proofs.rising.none_among.Given as goal

abbrev pub invariant-loop-first : goal.invariant-loop-first
invariant-loop-first g l =
    IsStrictlySortedBy g.T.Ord.cmp l.initial.left → IsStrictlySortedBy g.T.Ord.cmp l.left × (none_among g.T.Ord.cmp l.left l.right ≡ none_among g.T.Ord.cmp l.initial.left l.initial.right)

abbrev pub decreases-loop-first : goal.decreases-loop-first
decreases-loop-first g l = length l.left + length l.right
