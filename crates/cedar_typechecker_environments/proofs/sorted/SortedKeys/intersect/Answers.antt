use Rattle.std.proofs.Common.{◌&&◌, subst, ◌∙◌}
use Rattle.std.specs.List.{AllZip}
use Rattle.std.specs.Ordering.{eq_by_cmp}
use Rattle.std.specs.Set.{is_member}
use Rattle.cedar_typechecker_environments.specs.Merged.{common}
use Rattle.cedar_typechecker_environments.proofs.Copies.{copies_rise, copies_tell}
use Rattle.cedar_typechecker_environments.proofs.Merges.{common_rises, common_is_intersection}
use Rattle.cedar_typechecker_environments.proofs.sorted.SortedKeys.intersect.Goals as goal

pub invariant_of-result : goal.invariant_of-result
invariant_of-result g c =
    let xs = c.self.inside.keys.items in
    let ys = c.other.inside.keys.items in
    copies_rise g.K.Clone.is_clone g.met.K.Ord.total c.requires (common g.K.Ord.cmp xs ys) c.in_ok-keys.keys.items
    (subst (λ l. AllZip g.K.Clone.is_clone l c.in_ok-keys.keys.items) (λ i. common g.K.Ord.cmp (c.as_slice.ensures.value i) (c.as_slice-2.ensures.value i)) c.in_ok-keys.ensures) (common_rises g.met.K.Ord.total xs ys c.self.invariant)

pub returns : goal.returns
returns g c q =
    let xs = c.self.inside.keys.items in
    let ys = c.other.inside.keys.items in
    copies_tell g.K.Clone.is_clone g.met.K.Ord.total c.requires q (common g.K.Ord.cmp xs ys) c.in_ok-keys.keys.items
    (subst (λ l. AllZip g.K.Clone.is_clone l c.in_ok-keys.keys.items) (λ i. common g.K.Ord.cmp (c.as_slice.ensures.value i) (c.as_slice-2.ensures.value i)) c.in_ok-keys.ensures) ∙ common_is_intersection g.met.K.Ord.total xs ys c.self.invariant c.other.invariant q
    ∙ (λ i. is_member (eq_by_cmp g.K.Ord.cmp) (c.self.view_is i) q && is_member (eq_by_cmp g.K.Ord.cmp) (c.other.view_is i) q)
