use Rattle.std.proofs.Common.{◌≡◌}
use Rattle.std.specs.Vec.Iter.{into_iter_items}
use Rattle.indexmap.specs.IndexMap.{insert_all}
use Rattle.cedar_evaluator_requests.specs.Groups.{same_id, each_once}
use Rattle.cedar_evaluator_requests.proofs.groups.group_of.Given as goal

abbrev pub invariant-loop-id : goal.invariant-loop-id
invariant-loop-id g l = insert_all same_id l.group.entries (into_iter_items l.id-iterator) ≡ each_once l.fn.entries.items
