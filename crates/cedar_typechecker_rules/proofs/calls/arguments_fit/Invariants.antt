use Rattle.std.proofs.Common.{◌≡◌, map, drop}
use Rattle.cedar_schema_types.specs.Types.{type_of}
use Rattle.cedar_typechecker_model.specs.Rules.{arguments_fit}
use Rattle.cedar_typechecker_rules.proofs.calls.arguments_fit.Given as goal

abbrev pub invariant-loop-ty : goal.invariant-loop-ty
invariant-loop-ty l = arguments_fit (map type_of l.due) (map (λ t. type_of t.now) (drop l.ty-index l.types)) ≡ arguments_fit (map type_of l.parameters) (map (λ t. type_of t.now) l.types)
