use Rattle.std.proofs.Common.{◌<◌, Some, length, sym, ap, ◌∙◌, subst}
use Rattle.std.proofs.lemmas.Option.{slice_get-get_or}
use Rattle.std.specs.List.{slice_get}
use Rattle.std.specs.Option.{option_and_then}
use Rattle.cedar_expr_names.specs.Views.{uid_of}
use Rattle.cedar_store_entities.specs.Uids.{uids_in}
use Rattle.cedar_store_entities.proofs.Kin.{zip_looked}
use Rattle.cedar_store_entities.proofs.ancestors.Ancestors.is_parent.Goals as goal

pub returns-in-Some : goal.returns-in-Some
returns-in-Some c =
    let a = c.args.self.now in
    let bs = a.are_parents.items in
    let inside : c.in-Some.place < length bs = subst (λ n. c.in-Some.place < n) (sym a.matched) c.in-Some.ensures.inside in
    sym (zip_looked (uids_in a.uids) bs (uid_of c.args.uid.now) a.matched ∙ ap (option_and_then (slice_get bs)) (sym c.place.ensures.place ∙ c.in-Some.is)
    ∙ slice_get-get_or bs c.in-Some.place c.index.result.now inside ∙ ap Some (sym c.index.ensures))

pub returns-in-None : goal.returns-in-None
returns-in-None c =
    let a = c.args.self.now in
    let bs = a.are_parents.items in
    sym (zip_looked (uids_in a.uids) bs (uid_of c.args.uid.now) a.matched ∙ ap (option_and_then (slice_get bs)) (sym c.place.ensures.place ∙ c.in-None.is))
