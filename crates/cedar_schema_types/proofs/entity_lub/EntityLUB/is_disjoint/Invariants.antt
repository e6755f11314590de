use Rattle.std.proofs.Common.{◌≡◌, map}
use Rattle.std.specs.List.{list_any}
use Rattle.cedar_expr_model.specs.Name.{name_eq}
use Rattle.cedar_schema_types.specs.Unions.{members_of}
use Rattle.cedar_schema_types.proofs.Unions.{some_among}
use Rattle.cedar_schema_types.proofs.entity_lub.EntityLUB.is_disjoint.Given as goal

abbrev pub invariant-loop-ty : goal.invariant-loop-ty
invariant-loop-ty l = some_among (members_of l.other) l.ty-iterator ≡ list_any (λ n. list_any (name_eq n) (members_of l.other)) (members_of l.self)
