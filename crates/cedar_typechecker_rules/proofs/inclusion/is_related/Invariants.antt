use Rattle.std.proofs.Common.{◌≡◌, ◌||◌, Bool, map}
use Rattle.std.specs.List.{list_any}
use Rattle.cedar_expr_model.specs.Name.{Name, name_eq}
use Rattle.cedar_expr_names.specs.Views.{type_name_of}
use Rattle.cedar_schema_model.specs.Descent.{type_descends}
use Rattle.cedar_schema_types.specs.Unions.{members_of}
use Rattle.cedar_typechecker_rules.proofs.inclusion.is_related.Given as goal

abbrev pub invariant-loop-above : goal.invariant-loop-above
invariant-loop-above g l =
    let related : Name → Bool = λ n. name_eq (type_name_of l.ty) n || type_descends (g.S.DeclaredAttributes.schema l.world.schema.now) (type_name_of l.ty) n in
    list_any related (map type_name_of l.above-iterator) ≡ list_any related (members_of l.union)
