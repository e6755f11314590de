use Rattle.std.proofs.Common.{◌≡◌, ◌++◌}
use Rattle.cedar_schema_types.specs.Types.{attributes_of, entries_of}
use Rattle.cedar_schema_types.specs.AttributeLists.{declared_pairs}
use Rattle.cedar_schema_joins.specs.Modes.{mode_of}
use Rattle.cedar_schema_joins.proofs.Joined.{of_entries}
use Rattle.cedar_schema_joins.proofs.joins.+join.Given as goal

abbrev pub invariant-join_attributes-loop-name : goal.invariant-join_attributes-loop-name
invariant-join_attributes-loop-name l =
    (declared_pairs l.joined.items ++ of_entries (mode_of l.mode) (attributes_of l.others) l.name-iterator) ≡ of_entries (mode_of l.mode) (attributes_of l.others) (entries_of l.attrs)
