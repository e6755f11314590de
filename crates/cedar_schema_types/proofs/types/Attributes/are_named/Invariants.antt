use Rattle.std.proofs.Common.{◌≡◌}
use Rattle.cedar_schema_model.specs.Subtype.{are_named}
use Rattle.cedar_schema_types.specs.Types.{attributes_of}
use Rattle.cedar_schema_types.proofs.Named.{all_named}
use Rattle.cedar_schema_types.proofs.types.Attributes.are_named.Given as goal

abbrev pub invariant-loop-name : goal.invariant-loop-name
invariant-loop-name l = all_named (attributes_of l.others) l.name-iterator ≡ are_named (attributes_of l.self) (attributes_of l.others)
