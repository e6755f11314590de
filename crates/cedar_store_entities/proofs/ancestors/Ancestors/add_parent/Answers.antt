use Rattle.std.proofs.Common.{OnOk, ◌≡◌, sym, ap, ◌∙◌, subst}
use Rattle.std.specs.List.{list_any}
use Rattle.cedar_expr_names.specs.Views.{uid_of}
use Rattle.cedar_expr_model.specs.Uid.{uid_eq}
use Rattle.cedar_store_entities.specs.Uids.{uids_in}
use Rattle.cedar_store_entities.specs.Views.{kin_in}
use Rattle.cedar_store_entities.proofs.Kin.{uids_zipped, parent_fresh, parent_set}
use Rattle.cedar_store_entities.proofs.Placed.{none_there}
use Rattle.cedar_store_entities.proofs.ancestors.Ancestors.add_parent.Goals as goal

pub put-requires : goal.put-requires
put-requires c =
    let a = c.args.self.now in
    let u = uid_of c.args.uid in
    ap (list_any (uid_eq u)) (uids_zipped (uids_in a.uids) a.are_parents.items a.matched) ∙ none_there (uids_in a.uids) u (sym c.place.ensures.place ∙ c.in-None.is)

pub returns-in-Some-clause-kin : goal.returns-in-Some-clause-kin
returns-in-Some-clause-kin c =
    let a = c.args.self.now in
    parent_set (uids_in a.uids) a.are_parents.items (uid_of c.args.uid) c.in-Some.place a.matched (sym c.place.ensures.place ∙ c.in-Some.is)

pub returns-in-None-clause-kin : goal.returns-in-None-clause-kin
returns-in-None-clause-kin c =
    let a = c.args.self.now in
    let u = uid_of c.args.uid in
    let fresh = ap (list_any (uid_eq u)) (uids_zipped (uids_in a.uids) a.are_parents.items a.matched) ∙ none_there (uids_in a.uids) u (sym c.place.ensures.place ∙ c.in-None.is) in
    subst (λ k. OnOk c.put.result (kin_in c.put.new.self ≡ k)) (parent_fresh (kin_in a) u fresh) c.put.ensures.put
