use Rattle.std.proofs.Common.{◌++◌, ◌∷◌, [], sym, ap, ◌∙◌}
use Rattle.std.specs.List.{list_any, zip}
use Rattle.cedar_expr_names.specs.Views.{uid_of}
use Rattle.cedar_expr_model.specs.Uid.{uid_eq}
use Rattle.cedar_store_entities.specs.Uids.{uids_in}
use Rattle.cedar_store_entities.proofs.Kin.{uids_zipped, zip_more}
use Rattle.cedar_store_entities.proofs.ancestors.Ancestors.put.Goals as goal

pub put-requires : goal.put-requires
put-requires c =
    let a = c.args.self.now in
    ap (list_any (uid_eq (uid_of c.args.uid))) (sym (uids_zipped (uids_in a.uids) a.are_parents.items a.matched)) ∙ c.requires

pub returns-clause-put : goal.returns-clause-put
returns-clause-put c =
    let a = c.args.self.now in
    let us = uids_in a.uids in
    ap (λ vs. zip vs c.push_reserved.new.self.items) c.in_ok-put.ensures.put
    ∙ ap (zip (us ++ uid_of c.args.uid ∷ [])) (c.push_reserved.ensures.items ∙ ap (λ bs. bs ++ c.args.is_parent ∷ []) c.reserve.ensures.items)
    ∙ zip_more us a.are_parents.items (uid_of c.args.uid) c.args.is_parent a.matched
