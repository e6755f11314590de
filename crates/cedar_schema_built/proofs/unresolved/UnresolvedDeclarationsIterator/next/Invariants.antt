use Rattle.std.proofs.Common.{◌≡◌, [], length}
use Rattle.cedar_schema_built.specs.Iterators.{unresolved_left}
use Rattle.cedar_schema_built.proofs.unresolved.UnresolvedDeclarationsIterator.next.Given as goal

abbrev pub invariant-loop-entity_type : goal.invariant-loop-entity_type
invariant-loop-entity_type l = unresolved_left l.initial.self ≡ unresolved_left l.self

abbrev pub decreases-loop-entity_type : goal.decreases-loop-entity_type
decreases-loop-entity_type l = length l.self.types

abbrev pub invariant-loop-action : goal.invariant-loop-action
invariant-loop-action l = record { same : unresolved_left l.fn.self ≡ unresolved_left l.self; done : l.self.types ≡ [] }

abbrev pub decreases-loop-action : goal.decreases-loop-action
decreases-loop-action l = length l.self.actions
