use Rattle.std.proofs.Common.{[], ◌∷◌, ◌++◌, sym, subst, ap, ◌∙◌}
use Rattle.std.specs.List.Sorted.{IsStrictlySortedBy}
use Rattle.cedar_typechecker_environments.proofs.sorted.SortedKeys.singleton.Goals as goal

pub invariant_of-result : goal.invariant_of-result
unfolding IsStrictlySortedBy
invariant_of-result g c = subst (IsStrictlySortedBy g.K.Ord.cmp) (sym (c.in_ok-push.ensures.items ∙ ap (λ l. l ++ c.args.key ∷ []) c.new-keys.ensures.items)) (tt, tt)
