use Rattle.std.proofs.Common.{◌≡◌, ◌++◌, map}
use Rattle.cedar_expr_names.specs.Views.{name_of, type_name_of}
use Rattle.cedar_schema_assembly.proofs.names.entity_types_of.Given as goal

abbrev pub invariant-loop-name : goal.invariant-loop-name
invariant-loop-name l = (map type_name_of l.types.items ++ map name_of l.name-iterator) ≡ map name_of l.names.keys
