use Rattle.std.proofs.Common.{length, sym, ap, ◌∙◌}
use Rattle.std.specs.List.{zip}
use Rattle.cedar_store_entities.proofs.Kin.{bools_copied}
use Rattle.cedar_store_entities.proofs.ancestors.AncestorsClone.clone.Goals as goal

pub invariant_of-result : goal.invariant_of-result
invariant_of-result c =
    let bs = bools_copied c.args.self.now.are_parents.items c.in_ok-clone-2.field-0.items c.in_ok-clone-2.ensures.cases.0 in
    record { matched = ap length bs ∙ c.args.self.now.matched ∙ sym (ap length c.in_ok-clone.ensures.cases) }

pub returns : goal.returns
returns c =
    let bs = bools_copied c.args.self.now.are_parents.items c.in_ok-clone-2.field-0.items c.in_ok-clone-2.ensures.cases.0 in
    record { cases = λ i. zip (c.in_ok-clone.ensures.cases i) (bs i) }
