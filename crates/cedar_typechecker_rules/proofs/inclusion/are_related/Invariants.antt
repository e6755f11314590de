use Rattle.std.proofs.Common.{◌≡◌, ◌||◌, Bool, map}
use Rattle.std.specs.List.{list_any}
use Rattle.cedar_expr_model.specs.Name.{Name, name_eq}
use Rattle.cedar_expr_names.specs.Views.{type_name_of}
use Rattle.cedar_schema_model.specs.Descent.{type_descends}
use Rattle.cedar_schema_types.specs.Unions.{members_of}
use Rattle.cedar_typechecker_rules.proofs.inclusion.are_related.Given as goal

abbrev pub invariant-loop-ty : goal.invariant-loop-ty
invariant-loop-ty g l =
    let related : Name → Bool = λ m. list_any (λ n. name_eq m n || type_descends (g.S.DeclaredAttributes.schema l.world.schema.now) m n) (members_of l.union) in
    list_any related (map type_name_of l.ty-iterator) ≡ list_any related (members_of l.own)
