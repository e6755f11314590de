use Rattle.std.proofs.Common.{◌≡◌, map}
use Rattle.cedar_expr_names.specs.Views.{type_name_of}
use Rattle.cedar_schema_types.specs.Unions.{members_of}
use Rattle.cedar_schema_joins.proofs.Shared.{some_declare}
use Rattle.cedar_schema_joins.proofs.lookup.by_some.Given as goal

abbrev pub invariant-loop-ty : goal.invariant-loop-ty
invariant-loop-ty g l = some_declare (g.S.DeclaredAttributes.schema l.schema) l.attr (map type_name_of l.ty-iterator) ≡ some_declare (g.S.DeclaredAttributes.schema l.schema) l.attr (members_of l.union)
