use Rattle.std.specs.Vec.Iter.{into_iter_items}
use Rattle.cedar_schema_builder.proofs.GatheredLists.{Gathers}
use Rattle.cedar_schema_builder.proofs.gathered.all_namespaces.Given as goal

abbrev pub invariant-loop-fragment : goal.invariant-loop-fragment
invariant-loop-fragment l =
    (goal.iterator-loop-fragment).can_next l.fragment-iterator ×
    (goal.iterator-loop-fragment).is_finite l.fragment-iterator ×
    Gathers (λ f. f.0.items) l.fn.fragments.items l.all.items (into_iter_items l.fragment-iterator)
