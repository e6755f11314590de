use Rattle.std.proofs.Common.{sym, ap, ◌∙◌}
use Rattle.std.specs.List.{list_any}
use Rattle.cedar_expr_model.specs.Uid.{uid_eq}
use Rattle.cedar_expr_names.specs.Views.{uid_of}
use Rattle.cedar_store_entities.specs.Uids.{uids_in}
use Rattle.cedar_store_entities.proofs.Kin.{uids_zipped}
use Rattle.cedar_store_entities.proofs.ancestors.Ancestors.has.Goals as goal

pub returns : goal.returns
returns c =
    let a = c.args.self.now in
    c.has.ensures ∙ ap (list_any (uid_eq (uid_of c.args.uid.now))) (sym (uids_zipped (uids_in a.uids) a.are_parents.items a.matched))
