use Rattle.std.proofs.Common.{sym, ◌∙◌}
use Rattle.cedar_store_entities.specs.Uids.{uids_in}
use Rattle.cedar_store_entities.proofs.Kin.{uids_zipped}
use Rattle.cedar_store_entities.proofs.ancestors.Ancestors.uids.Goals as goal

pub returns : goal.returns
returns c =
    let a = c.args.self.now in
    c.iter.ensures ∙ sym (uids_zipped (uids_in a.uids) a.are_parents.items a.matched)
