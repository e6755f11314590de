use Rattle.std.proofs.Common.{◌≡◌, ◌++◌, ◌∷◌, [], map, Some, ap, sym, subst, ◌∙◌, append_assoc}
use Rattle.std.proofs.lemmas.List.{append-nil, nil_from_length}
use Rattle.std.specs.Vec.Iter.{into_iter_items}
use Rattle.cedar_store_model.specs.Store.{store_of, whole}
use Rattle.cedar_store_entities.specs.Places.{are_apart}
use Rattle.cedar_store_entities.specs.Refusals.{RefusesUid, RefusesUids}
use Rattle.cedar_store_entities.specs.Stores.{extent_of}
use Rattle.cedar_store_entities.specs.Uids.{uids_in}
use Rattle.cedar_store_entities.specs.Views.{entity_pair, entity_uid}
use Rattle.cedar_store_entities.proofs.Gathered.{apart_entities, handed, made_store, refused_all}
use Rattle.cedar_store_entities.proofs.entities.Entities.from_entities.Goals as goal

pub loop-entity-preserved : goal.loop-entity-preserved
loop-entity-preserved c =
    let seen = c.loop-entity.invariant in
    let xs = c.loop-entity.yielded in
    record {
      goes = seen.goes ∙ ap (λ rest. xs ++ rest) c.in-Some.ensures.steps.0 ∙ sym (append_assoc xs (c.in-Some.entity ∷ []) (into_iter_items c.next.new.self));
      kept = c.in_ok-add.ensures.added ∙ ap (λ es. es ++ c.in-Some.entity ∷ []) seen.kept;
      extent = ap extent_of c.in_ok-add.ensures.mode ∙ seen.extent;
      none = ap uids_in c.in_ok-add.ensures.absent ∙ seen.none;
    }

pub returns-in_err-add-clause-refused : goal.returns-in_err-add-clause-refused
returns-in_err-add-clause-refused c =
    let seen = c.loop-entity.invariant in
    let xs = c.loop-entity.yielded in
    let s = c.loop-entity.store in
    let e = c.in_err-add.field-0.0 in
    let apart = ap are_apart (sym (s.named ∙ ap (map entity_uid) seen.kept)) ∙ s.uids.apart in
    handed (RefusesUids (map entity_uid c.args.entities.items)) e c.from_residual.result c.from_residual.ensures.1
    (refused_all xs (into_iter_items c.next.new.self) c.in-Some.entity apart c.args.entities.items e (seen.goes ∙ ap (λ rs. xs ++ rs) c.in-Some.ensures.steps.0)
    (subst (λ es. RefusesUid (map entity_uid es) (entity_uid c.in-Some.entity) e) seen.kept c.in_err-add.ensures.refused))

pub returns-clause-made : goal.returns-clause-made
returns-clause-made c =
    let seen = c.loop-entity.invariant in
    let s = c.loop-entity.store in
    let es = s.entities.items in
    let it = c.loop-entity.entity-iterator in
    let none = nil_from_length (into_iter_items it) (sym it.rest.ok.0 ∙ c.in-None.ensures.steps.0) in
    let all : c.args.entities.items ≡ es = seen.goes ∙ ap (λ rest. c.loop-entity.yielded ++ rest) none ∙ append-nil c.loop-entity.yielded ∙ sym seen.kept in
    ap (λ xs. store_of whole (map entity_pair xs)) all
    ∙ made_store es (apart_entities es (uids_in s.uids) s.named s.uids.apart)
    ∙ (λ i. Some (record { extent = sym seen.extent i; entities = map entity_pair es; absent = sym seen.none i }))
