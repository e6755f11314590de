use Rattle.std.proofs.Common.{rules, ◌≡◌, ◌<◌, map, length, sym, subst, ◌∙◌}
use Rattle.std.specs.BTreeMap.{is_at}
use Rattle.std.specs.Map.{lookup}
use Rattle.std.specs.Option.{IfSome}
use Rattle.cedar_expr_names.specs.Views.{uid_of}
use Rattle.cedar_store_entities.proofs.Placed.{place_inside}
use Rattle.cedar_store_entities.proofs.Uids.{uids_by, by_its_uid}
use Rattle.cedar_store_entities.proofs.uid_set.UidSet.place.Goals as goal

pub returns-clause-place : goal.returns-clause-place
returns-clause-place c =
    let s = c.args.self.now in
    let u = c.args.uid.now in
    let is : c.copied.result ≡ lookup (is_at (uids_by u)) s.places.entries = search rules in
    is ∙ by_its_uid s.places.entries u ∙ s.led u

pub returns-clause-inside : goal.returns-clause-inside
returns-clause-inside c =
    let us = map uid_of c.args.self.now.uids.items in
    subst (λ o. IfSome o (λ i. i < length us)) (sym (returns-clause-place c)) (place_inside us (uid_of c.args.uid.now))
