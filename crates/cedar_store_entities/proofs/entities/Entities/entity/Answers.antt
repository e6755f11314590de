use Rattle.std.proofs.Common.{◌<◌, Some, cond, length, sym, ap, ◌∙◌, subst}
use Rattle.std.proofs.lemmas.List.{length-map}
use Rattle.std.proofs.lemmas.Option.{slice_get-get_or}
use Rattle.cedar_expr_names.specs.Views.{uid_of}
use Rattle.cedar_store_model.specs.World.{missing, not_loaded}
use Rattle.cedar_store_entities.specs.Places.{place_in}
use Rattle.cedar_store_entities.specs.Stores.{extent_of}
use Rattle.cedar_store_entities.specs.Uids.{uids_in}
use Rattle.cedar_store_entities.specs.Views.{entity_uid}
use Rattle.cedar_store_entities.proofs.Stored.{stored, not_stored}
use Rattle.cedar_store_entities.proofs.entities.Entities.entity.Goals as goal

pub returns-in-Some : goal.returns-in-Some
returns-in-Some c =
    let s = c.args.self.now in
    let es = s.entities.items in
    let inside : c.in-Some.place < length es = subst (λ n. c.in-Some.place < n) (ap length s.named ∙ length-map es entity_uid) c.in-Some.ensures.inside in
    stored (extent_of s.mode) s.entities.items (uids_in s.absent) c.args.uid.now c.in-Some.place c.index.result.now
    (ap (λ us. place_in us (uid_of c.args.uid.now)) (sym s.named) ∙ sym c.place.ensures.place ∙ c.in-Some.is)
    (slice_get-get_or es c.in-Some.place c.index.result.now inside ∙ ap Some (sym c.index.ensures))

pub returns-then-lacks : goal.returns-then-lacks
returns-then-lacks c =
    let s = c.args.self.now in
    not_stored (extent_of s.mode) s.entities.items (uids_in s.absent) c.args.uid.now
    (ap (λ us. place_in us (uid_of c.args.uid.now)) (sym s.named) ∙ sym c.place.ensures.place ∙ c.in-None.is)
    ∙ (c.lacks.ensures ∙ ap (λ b. cond b missing not_loaded) c.if-lacks.true)

pub returns-in_ok-stand_in-in-None : goal.returns-in_ok-stand_in-in-None
returns-in_ok-stand_in-in-None c =
    let s = c.args.self.now in (
      not_stored (extent_of s.mode) s.entities.items (uids_in s.absent) c.args.uid.now
          (ap (λ us. place_in us (uid_of c.args.uid.now)) (sym s.named) ∙ sym c.place.ensures.place ∙ c.in-None.is)
          ∙ (c.lacks.ensures ∙ ap (λ b. cond b missing not_loaded) c.if-lacks.false),
      c.in_ok-stand_in-in-None.ensures,
    )
