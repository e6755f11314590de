use Rattle.cedar_schema_types.specs.Types.{entries_of}
use Rattle.cedar_schema_types.specs.Views.{core_pairs}
use Rattle.cedar_schema_types.proofs.OneByOne.{IsReading}
use Rattle.cedar_schema_types.proofs.reading.+reading.Given as goal

abbrev pub invariant-core_pairs-loop-name : goal.invariant-core_pairs-loop-name
invariant-core_pairs-loop-name l =
    (goal.iterator-core_pairs-loop-name).can_next l.name-iterator ×
    (goal.iterator-core_pairs-loop-name).is_finite l.name-iterator ×
    IsReading (entries_of l.attrs) (core_pairs l.pairs.items) l.name-iterator
