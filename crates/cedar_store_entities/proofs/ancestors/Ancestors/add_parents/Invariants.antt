use Rattle.std.proofs.Common.{◌≡◌, map}
use Rattle.std.specs.Vec.Iter.{into_iter_items}
use Rattle.cedar_expr_names.specs.Views.{uid_of}
use Rattle.cedar_store_entities.specs.Recorded.{with_parents}
use Rattle.cedar_store_entities.specs.Views.{kin_in}
use Rattle.cedar_store_entities.proofs.ancestors.Ancestors.add_parents.Given as goal

abbrev pub invariant-loop-uid : goal.invariant-loop-uid
invariant-loop-uid l = with_parents (kin_in l.self) (map uid_of (into_iter_items l.uid-iterator)) ≡ with_parents (kin_in l.initial.self) (map uid_of l.fn.parents.items)
