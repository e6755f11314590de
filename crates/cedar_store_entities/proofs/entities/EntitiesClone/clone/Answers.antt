use Rattle.std.proofs.Common.{sym, ◌∙◌}
use Rattle.cedar_store_entities.specs.Stores.{extent_of}
use Rattle.cedar_store_entities.proofs.Copies.{uids_same, pairs_same, kept_same}
use Rattle.cedar_store_entities.proofs.entities.EntitiesClone.clone.Goals as goal

pub invariant_of-result : goal.invariant_of-result
invariant_of-result c =
    let s = c.args.self.now in
    record { named = c.in_ok-clone.ensures.cases ∙ s.named ∙ sym (uids_same s.entities.items c.in_ok-clone-2.field-0.items c.in_ok-clone-2.ensures.cases.0) }

pub returns : goal.returns
returns c =
    let s = c.args.self.now in
    let es = c.in_ok-clone-2.field-0.items in
    let same = c.in_ok-clone-2.ensures.cases.0 in
    record {
      cases = (
        λ i. record { extent = extent_of s.mode; entities = pairs_same s.entities.items es same i; absent = c.in_ok-clone-3.ensures.cases i },
        kept_same s.entities.items es same,
      );
    }
