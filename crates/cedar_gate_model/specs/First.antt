-- The first of the faults, in the order of their numbers.
-- Rule: conforming entities; conforming requests (docs/RULES.md).
use Rattle.std.specs.Prelude.{Bool, Option, find}
use Rattle.cedar_schema_model.specs.Conforming.{ConformFault, conform_faults}

abbrev pub first_fault : (ConformFault → Bool) → Option ConformFault
first_fault has = find has conform_faults
