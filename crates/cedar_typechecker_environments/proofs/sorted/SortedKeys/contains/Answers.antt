use Rattle.std.proofs.Common.{◌∙◌, ap, sym, subst}
use Rattle.std.specs.List.Sorted.{IsStrictlySortedBy}
use Rattle.std.specs.Ordering.{eq_by_cmp}
use Rattle.std.specs.Set.{is_member}
use Rattle.cedar_typechecker_environments.proofs.Searched.{searched}
use Rattle.cedar_typechecker_environments.proofs.sorted.SortedKeys.contains.Goals as goal

pub returns : goal.returns
returns g c =
    let here = c.deref.ensures.value in
    c.is_ok.ensures.value ∙ searched g.met.K.Ord.total c.args.key.now c.deref.result.now c.binary_search.result c.binary_search.ensures.bound c.binary_search.ensures.position
    (subst (IsStrictlySortedBy g.K.Ord.cmp) (sym here) c.self.invariant) ∙ ap (λ l. is_member (eq_by_cmp g.K.Ord.cmp) l c.args.key.now) (here ∙ c.self.view_is)
