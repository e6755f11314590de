use Rattle.std.proofs.Common.{map, is_some, ap, ◌∙◌}
use Rattle.cedar_expr_names.specs.Views.{uid_of}
use Rattle.cedar_store_entities.proofs.Placed.{has_place}
use Rattle.cedar_store_entities.proofs.Uids.{by_its_uid}
use Rattle.cedar_store_entities.proofs.uid_set.UidSet.has.Goals as goal

pub returns : goal.returns
returns c =
    let s = c.args.self.now in
    let u = c.args.uid.now in
    c.contains_key.ensures ∙ ap is_some (by_its_uid s.places.entries u ∙ s.led u) ∙ has_place (map uid_of s.uids.items) (uid_of u)
