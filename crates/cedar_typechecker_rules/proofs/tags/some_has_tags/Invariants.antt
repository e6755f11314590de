use Rattle.std.proofs.Common.{◌≡◌, Bool, map, is_some}
use Rattle.std.specs.List.{list_any}
use Rattle.cedar_expr_model.specs.Name.{Name}
use Rattle.cedar_expr_names.specs.Views.{type_name_of}
use Rattle.cedar_schema_types.specs.Unions.{members_of}
use Rattle.cedar_typechecker_model.specs.Rules.{tags_of}
use Rattle.cedar_typechecker_rules.proofs.tags.some_has_tags.Given as goal

abbrev pub invariant-loop-ty : goal.invariant-loop-ty
invariant-loop-ty g l =
    let tagged : Name → Bool = λ n. is_some (tags_of (g.S.DeclaredAttributes.schema l.world.schema.now) n) in
    list_any tagged (map type_name_of l.ty-iterator) ≡ list_any tagged (members_of l.union)
