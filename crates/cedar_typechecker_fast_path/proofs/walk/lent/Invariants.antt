use Rattle.std.proofs.Common.{◌≡◌, map, take}
use Rattle.cedar_schema_types.specs.Types.{type_of}
use Rattle.cedar_typechecker_fast_path.proofs.walk.lent.Given as goal

abbrev pub invariant-loop-ty : goal.invariant-loop-ty
invariant-loop-ty l = map (λ t. type_of t.now) l.all.items ≡ map type_of (take l.ty-index l.types)
