use Rattle.std.proofs.Common.{map, length, sym, ap, ◌∙◌, subst}
use Rattle.std.proofs.lemmas.List.{length-map}
use Rattle.cedar_schema_resolver.specs.Graphs.{IsWithin, IsClosure, IsTurned}
use Rattle.cedar_schema_resolver.specs.Numbers.{seen_nodes, names_in, AreSetsAt}
use Rattle.cedar_schema_resolver.proofs.Graphing.{closure_within, turned_within, same_names, descendants_are}
use Rattle.cedar_schema_resolver.proofs.descent.descendants.Goals as goal

pub turned-requires : goal.turned-requires
turned-requires g c = subst IsWithin (sym c.deref-2.ensures.value) (closure_within c.in_ok-graph.graph.items c.in_ok-above.above.items c.in_ok-graph.ensures.graph.within (subst (λ r. IsClosure r c.in_ok-above.above.items) c.deref.ensures.value c.in_ok-above.ensures))

pub sets-requires-clause-within : goal.sets-requires-clause-within
sets-requires-clause-within g c = subst IsWithin (sym c.deref-3.ensures.value) (turned_within c.in_ok-above.above.items c.in_ok-below.below.items (subst (λ r. IsTurned r c.in_ok-below.below.items) c.deref-2.ensures.value c.in_ok-below.ensures))

pub returns-clause-descendants : goal.returns-clause-descendants
returns-clause-descendants g c =
    let sets = map (λ s. map g.N.Node.seen s.keys) c.in_ok-sets.sets.items in
    descendants_are (seen_nodes g.N.Node.seen c.args.nodes.now) c.in_ok-graph.graph.items c.in_ok-graph.ensures.graph c.in_ok-above.above.items c.in_ok-below.below.items sets
    (subst (λ r. IsClosure r c.in_ok-above.above.items) c.deref.ensures.value c.in_ok-above.ensures)
    (subst (λ r. IsTurned r c.in_ok-below.below.items) c.deref-2.ensures.value c.in_ok-below.ensures)
    (subst (λ ns. AreSetsAt ns c.in_ok-below.below.items sets) (sym (same_names g.N.Node.seen c.args.nodes.now)) (subst (λ r. AreSetsAt (names_in g.N.Node.seen c.args.nodes.now) r sets) c.deref-3.ensures.value c.in_ok-sets.ensures))

pub sets-requires-clause-size : goal.sets-requires-clause-size
sets-requires-clause-size g c =
    ap length c.deref-3.ensures.value ∙ c.in_ok-below.ensures.size ∙ ap length c.deref-2.ensures.value ∙ c.in_ok-above.ensures.size ∙ ap length c.deref.ensures.value
    ∙ c.in_ok-graph.ensures.graph.size ∙ length-map c.args.nodes.now (λ t. (g.N.Node.seen t.0, map g.N.Node.seen t.1.items))
