use Rattle.std.proofs.Common.{◌≡◌, Some, map, drop}
use Rattle.cedar_schema_model.specs.Join.{reduce_to_join}
use Rattle.cedar_schema_model.proofs.Named.{join_all}
use Rattle.cedar_schema_types.specs.Types.{type_of}
use Rattle.cedar_schema_joins.specs.Modes.{mode_of}
use Rattle.cedar_typechecker_rules.proofs.literals.all_joined.Given as goal

abbrev pub invariant-loop-ty : goal.invariant-loop-ty
invariant-loop-ty l = join_all (mode_of l.mode) (Some (type_of l.joined)) (map (λ m. type_of m.now) (drop l.ty-index l.types)) ≡ reduce_to_join (mode_of l.mode) (map (λ m. type_of m.now) l.types)
