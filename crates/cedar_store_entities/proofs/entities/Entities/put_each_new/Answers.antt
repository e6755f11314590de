use Rattle.std.proofs.Common.{length, take, sym, ap, ◌∙◌}
use Rattle.std.specs.Vec.Iter.{into_iter_items}
use Rattle.cedar_store_entities.specs.Stores.{entities_kept, with_new}
use Rattle.cedar_store_entities.proofs.Fresh.{kept_before}
use Rattle.cedar_store_entities.proofs.entities.Entities.put_each_new.Goals as goal

pub loop-entity-preserved : goal.loop-entity-preserved
loop-entity-preserved c =
    let i = c.loop-entity.invariant in
    let first = entities_kept c.args.self.now in
    let now = entities_kept c.loop-entity.self in
    record {
      added = ap (λ es. with_new es (into_iter_items c.next.new.self)) c.in_ok-put_new.ensures.added ∙ ap (with_new now) (sym c.in-Some.ensures.steps.0) ∙ i.added;
      kept = ap (take (length first)) c.in_ok-put_new.ensures.added ∙ kept_before first now c.in-Some.entity i.kept;
      mode = c.in_ok-put_new.ensures.mode ∙ i.mode;
      absent = c.in_ok-put_new.ensures.absent ∙ i.absent;
    }
