use Rattle.std.proofs.Common.{◌≡◌, ◌++◌, map}
use Rattle.cedar_expr_names.specs.Views.{type_name_of}
use Rattle.cedar_schema_built.specs.Views.{names_of_types}
use Rattle.cedar_schema_built.proofs.listed.add_types.Given as goal

abbrev pub invariant-loop-ty : goal.invariant-loop-ty
invariant-loop-ty l = (names_of_types l.found.items ++ map type_name_of l.ty-iterator) ≡ (names_of_types l.initial.found.items ++ map type_name_of l.fn.types)
