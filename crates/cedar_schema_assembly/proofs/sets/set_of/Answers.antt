use Rattle.std.proofs.Common.{[], ◌∷◌, map, ap, ◌∙◌}
use Rattle.std.specs.Slice.Iter.{iter_rest}
use Rattle.std.proofs.lemmas.List.{append-nil}
use Rattle.cedar_schema_assembly.proofs.Putting.{set_first, nothing_yet}
use Rattle.cedar_schema_resolver.proofs.Gathering.{from_back}
use Rattle.cedar_schema_assembly.proofs.sets.set_of.Goals as goal

pub loop-part-init : goal.loop-part-init
loop-part-init g c = record {
  from_back = (
    [],
    append-nil _ ∙ ap (λ r. iter_rest r.iter) c.into_iter-part-iterator.ensures.into_iter_gives ∙ ap iter_rest c.rev-part-items.ensures.source ∙ c.iter.ensures.rest,
    nothing_yet g.P.Part.seen c.new-set.result.keys c.new-set.ensures.empty,
  );
}

pub loop-part-preserved : goal.loop-part-preserved
loop-part-preserved g c =
    let seen = g.P.Part.seen in
    let put = c.loop-part.invariant.from_back in
    let part = c.in-Some.part.now in
    record {
      from_back = (
        part ∷ put.0,
        from_back (iter_rest c.loop-part.part-iterator.iter) (iter_rest c.next.new.self.iter) put.0 c.args.parts.now part c.in-Some.ensures.steps put.1,
        set_first seen g.P.Ord.cmp g.met.P.Part.told (map seen put.0) c.loop-part.set.keys c.insert.new.self.keys c.in_ok-copy.field-0 (seen part) c.in_ok-copy.ensures c.in_ok-insert.ensures.keys put.2,
      );
    }
