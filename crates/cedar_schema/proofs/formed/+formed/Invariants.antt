use Rattle.std.proofs.Common.{◌≡◌}
use Rattle.cedar_schema_types.specs.Types.{entries_of}
use Rattle.cedar_schema.proofs.Going.{all_formed}
use Rattle.cedar_schema.proofs.formed.+formed.Given as goal

abbrev pub invariant-attributes_are_formed-loop-name : goal.invariant-attributes_are_formed-loop-name
invariant-attributes_are_formed-loop-name l = all_formed l._name-iterator ≡ all_formed (entries_of l.attrs)
