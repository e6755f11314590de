use Rattle.std.proofs.Common.{◌≡◌, find, map}
use Rattle.cedar_expr_names.specs.Views.{name_of}
use Rattle.cedar_schema_decl.specs.Defined.{defined_of}
use Rattle.cedar_schema_decl.specs.Shadowing.{type_shadows}
use Rattle.cedar_schema_decl.proofs.all_defs.AllDefs.first_shadowing_type.Given as goal

abbrev pub invariant-loop-name : goal.invariant-loop-name
invariant-loop-name l = find (type_shadows (defined_of l.self)) (map name_of l.names.keys) ≡ find (type_shadows (defined_of l.self)) (map name_of l.name-iterator)
