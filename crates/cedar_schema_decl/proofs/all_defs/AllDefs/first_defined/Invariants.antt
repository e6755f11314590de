use Rattle.std.proofs.Common.{◌≡◌, find, drop}
use Rattle.cedar_expr_names.specs.Views.{name_of}
use Rattle.cedar_schema_decl.specs.Conditional.{kind_of}
use Rattle.cedar_schema_decl.specs.Defined.{defined_of, tells}
use Rattle.cedar_schema_decl.proofs.all_defs.AllDefs.first_defined.Given as goal

abbrev pub invariant-loop-name : goal.invariant-loop-name
invariant-loop-name l = find (λ n. tells (defined_of l.self) (kind_of l.kind) (name_of n)) l.names ≡ find (λ n. tells (defined_of l.self) (kind_of l.kind) (name_of n)) (drop l.name-index l.names)
