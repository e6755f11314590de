use Rattle.std.proofs.Common.{[], ◌∷◌, ◌+◌, map, sym, ap, ◌∙◌, subst}
use Rattle.std.proofs.lemmas.List.{map-append}
use Rattle.cedar_schema_resolver.specs.Numbers.{names_in}
use Rattle.cedar_schema_resolver.proofs.Graphing.{SetsTo, one_set, row_at, row_below}
use Rattle.cedar_schema_resolver.proofs.descent.sets.Goals as goal

pub names_at-requires : goal.names_at-requires
names_at-requires g c = row_below c.args.graph.now c.loop-row.row-index _ _ c.requires.within c.requires.size (c.deref.ensures.value ∙ row_at c.args.graph.now c.loop-row.row-index c.row-item.result c.loop-row-test.true c.row-item.is)

pub loop-row-preserved : goal.loop-row-preserved
loop-row-preserved g c =
    let names = names_in g.N.Node.seen c.args.nodes.now in
    record {
      sets = subst (SetsTo names c.args.graph.now (c.loop-row.row-index + 1))
          (sym (ap (map (λ s. map g.N.Node.seen s.keys)) c.in_ok-push.ensures.items ∙ map-append (λ s. map g.N.Node.seen s.keys) c.loop-row.sets.items (c.in_ok-names_at.field-0 ∷ [])))
          (one_set names c.args.graph.now c.loop-row.row-index (map (λ s. map g.N.Node.seen s.keys) c.loop-row.sets.items) c.deref.result.now (map g.N.Node.seen c.in_ok-names_at.field-0.keys)
          (c.deref.ensures.value ∙ row_at c.args.graph.now c.loop-row.row-index c.row-item.result c.loop-row-test.true c.row-item.is) c.in_ok-names_at.ensures c.loop-row.invariant.sets);
    }
