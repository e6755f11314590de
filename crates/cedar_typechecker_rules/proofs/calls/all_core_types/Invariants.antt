use Rattle.std.proofs.Common.{◌≡◌, map, drop}
use Rattle.cedar_expr_model.specs.Lists.{all_given}
use Rattle.cedar_expr_values.specs.Types.{core_of}
use Rattle.cedar_schema_types.specs.Types.{type_of}
use Rattle.cedar_typechecker_model.specs.Rules.{core_as_type}
use Rattle.cedar_typechecker_rules.proofs.Gathered.{left_to_give}
use Rattle.cedar_typechecker_rules.proofs.calls.all_core_types.Given as goal

abbrev pub invariant-loop-ty : goal.invariant-loop-ty
invariant-loop-ty l = left_to_give core_as_type (map type_of l.all.items) (map core_of (drop l.ty-index l.types)) ≡ all_given core_as_type (map core_of l.types)
