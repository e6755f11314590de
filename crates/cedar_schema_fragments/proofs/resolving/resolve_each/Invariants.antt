use Rattle.std.proofs.Common.{map}
use Rattle.std.specs.Vec.Iter.{into_iter_items}
use Rattle.cedar_schema_decl.proofs.Gathered.{Gathers}
use Rattle.cedar_schema_fragments.proofs.resolving.resolve_each.Given as goal

abbrev pub invariant-loop-part : goal.invariant-loop-part
invariant-loop-part g l =
    (goal.iterator-loop-part g).can_next l.part-iterator ×
    (goal.iterator-loop-part g).is_finite l.part-iterator ×
    Gathers (g.R.Resolve.resolves l.names) (map g.R.Resolve.before l.fn.parts.items) (map g.R.Resolve.after l.made.items) (map g.R.Resolve.before (into_iter_items l.part-iterator))
