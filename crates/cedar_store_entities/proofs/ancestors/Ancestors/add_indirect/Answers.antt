use Rattle.std.proofs.Common.{OnOk, ◌≡◌, sym, ap, ◌∙◌, subst}
use Rattle.std.specs.List.{list_any}
use Rattle.cedar_expr_names.specs.Views.{uid_of}
use Rattle.cedar_expr_model.specs.Uid.{uid_eq}
use Rattle.cedar_store_entities.specs.Uids.{uids_in}
use Rattle.cedar_store_entities.specs.Views.{kin_in}
use Rattle.cedar_store_entities.proofs.Kin.{uids_zipped, indirect_known, indirect_fresh}
use Rattle.cedar_store_entities.proofs.ancestors.Ancestors.add_indirect.Goals as goal

pub returns-then-has-clause-kin : goal.returns-then-has-clause-kin
returns-then-has-clause-kin c =
    let a = c.args.self.now in
    let u = uid_of c.args.uid in
    indirect_known (kin_in a) u (ap (list_any (uid_eq u)) (uids_zipped (uids_in a.uids) a.are_parents.items a.matched) ∙ sym c.has.ensures ∙ c.if-has.true)

pub put-requires : goal.put-requires
put-requires c =
    let a = c.args.self.now in
    ap (list_any (uid_eq (uid_of c.args.uid))) (uids_zipped (uids_in a.uids) a.are_parents.items a.matched) ∙ sym c.has.ensures ∙ c.if-has.false

pub returns-clause-kin : goal.returns-clause-kin
returns-clause-kin c =
    let a = c.args.self.now in
    let u = uid_of c.args.uid in
    let fresh = ap (list_any (uid_eq u)) (uids_zipped (uids_in a.uids) a.are_parents.items a.matched) ∙ sym c.has.ensures ∙ c.if-has.false in
    subst (λ k. OnOk c.put.result (kin_in c.put.new.self ≡ k)) (indirect_fresh (kin_in a) u fresh) c.put.ensures.put
