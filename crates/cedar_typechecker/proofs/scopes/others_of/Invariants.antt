use Rattle.std.proofs.Common.{◌≡◌, ◌++◌, map, not}
use Rattle.std.specs.List.{filter}
use Rattle.cedar_expr_model.specs.Name.{name_eq}
use Rattle.cedar_expr_names.specs.Views.{type_name_of}
use Rattle.cedar_schema_built.specs.Iterators.{ancestors_left}
use Rattle.cedar_typechecker.proofs.scopes.others_of.Given as goal

abbrev pub invariant-loop-above : goal.invariant-loop-above
invariant-loop-above l = (map type_name_of l.others.items ++ filter (λ m. not (name_eq m (type_name_of l.ty))) (ancestors_left l.above-iterator)) ≡ filter (λ m. not (name_eq m (type_name_of l.ty))) (ancestors_left l.initial.above-iterator)
