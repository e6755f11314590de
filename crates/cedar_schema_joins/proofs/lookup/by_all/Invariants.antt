use Rattle.std.proofs.Common.{◌≡◌, map, option_and_then}
use Rattle.cedar_expr_names.specs.Views.{type_name_of}
use Rattle.cedar_schema_model.specs.Lookup.{declared_by_all}
use Rattle.cedar_schema_model.proofs.Named.{all_declared}
use Rattle.cedar_schema_types.specs.Types.{type_of}
use Rattle.cedar_schema_types.specs.Unions.{members_of}
use Rattle.cedar_schema_joins.proofs.Shared.{left_to_join}
use Rattle.cedar_schema_joins.proofs.lookup.by_all.Given as goal

abbrev pub invariant-loop-ty : goal.invariant-loop-ty
invariant-loop-ty g l =
    left_to_join (g.S.DeclaredAttributes.schema l.schema) l.attr (type_of l.joined) l.is_required (map type_name_of l.ty-iterator)
    ≡ option_and_then declared_by_all (all_declared (g.S.DeclaredAttributes.schema l.schema) l.attr (members_of l.union))
