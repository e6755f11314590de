use Rattle.std.proofs.Common.{sym, subst}
use Rattle.std.specs.List.Sorted.{IsStrictlySortedBy}
use Rattle.cedar_typechecker_environments.proofs.sorted.SortedKeys.new.Goals as goal

pub invariant_of-result : goal.invariant_of-result
unfolding IsStrictlySortedBy
invariant_of-result g c = subst (IsStrictlySortedBy g.K.Ord.cmp) (sym c.new.ensures.items) tt
