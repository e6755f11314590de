use Rattle.std.proofs.Common.{◌≡◌, Some, map, drop}
use Rattle.cedar_schema_model.specs.Join.{reduce_to_join}
use Rattle.cedar_schema_model.proofs.Named.{join_all}
use Rattle.cedar_schema_types.specs.Types.{type_of}
use Rattle.cedar_schema_joins.specs.Modes.{mode_of}
use Rattle.cedar_schema_joins.proofs.joins.reduce_to_least_upper_bound.Given as goal

abbrev pub invariant-loop-ty : goal.invariant-loop-ty
invariant-loop-ty l = join_all (mode_of l.mode) (Some (type_of l.joined)) (map type_of (drop l.ty-index l.tys)) ≡ reduce_to_join (mode_of l.mode) (map type_of l.tys)
