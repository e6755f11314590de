use Rattle.std.proofs.Common.{reverse, sym, ap, subst, ◌∙◌}
use Rattle.std.specs.List.{list_any}
use Rattle.std.specs.List.Sorted.{IsStrictlySortedBy}
use Rattle.std.proofs.lemmas.List.Sorted.{IsPermutation-reverse, list_any-IsPermutation}
use Rattle.cedar_typechecker_environments.specs.Along.{first_falls}
use Rattle.cedar_typechecker_environments.proofs.Falling.{falling, rising}
use Rattle.cedar_typechecker_environments.proofs.sorted.SortedKeys.in_order.Goals as goal
use Rattle.cedar_typechecker_environments.proofs.sorted.SortedKeys.in_order.Goals.{then-fall, else-fall}

pub invariant_of-result : goal.invariant_of-result
invariant_of-result g c =
    let xs = c.args.keys.items in
    let told = sym (c.fall.ensures ∙ ap (first_falls g.K.Ord.cmp) c.as_slice.ensures.value) in
    elim c.if-fall.branch [
      | then-fall w ↦ subst (IsStrictlySortedBy g.K.Ord.cmp) (sym (ap (λ v. v.items) w.keys-is ∙ w.reverse.ensures.items)) (falling g.met.K.Ord.total xs c.requires (told ∙ w.if-fall.true))
      | else-fall w ↦ subst (IsStrictlySortedBy g.K.Ord.cmp) (sym (ap (λ v. v.items) w.keys-is)) (rising g.met.K.Ord.total xs c.requires (told ∙ w.if-fall.false))
    ]

pub returns : goal.returns
returns g c test =
    let xs = c.args.keys.items in
    elim c.if-fall.branch [
      | then-fall w ↦ ap (λ v. list_any test v.items) w.keys-is ∙ ap (list_any test) w.reverse.ensures.items ∙ sym (list_any-IsPermutation test xs (reverse xs) (IsPermutation-reverse xs))
      | else-fall w ↦ ap (λ v. list_any test v.items) w.keys-is
    ]
