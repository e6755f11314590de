use Rattle.std.proofs.Common.{◌≡◌}
use Rattle.cedar_schema_model.specs.Subtype.{are_among}
use Rattle.cedar_schema_types.specs.Unions.{members_of}
use Rattle.cedar_schema_types.proofs.Unions.{all_among}
use Rattle.cedar_schema_types.proofs.entity_lub.EntityLUB.is_subset.Given as goal

abbrev pub invariant-loop-ty : goal.invariant-loop-ty
invariant-loop-ty l = all_among (members_of l.other) l.ty-iterator ≡ are_among (members_of l.self) (members_of l.other)
