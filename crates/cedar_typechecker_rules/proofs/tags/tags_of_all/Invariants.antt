use Rattle.std.proofs.Common.{◌≡◌, map, option_and_then}
use Rattle.cedar_expr_model.specs.Lists.{all_given}
use Rattle.cedar_expr_names.specs.Views.{type_name_of}
use Rattle.cedar_schema_model.specs.Join.{reduce_to_join}
use Rattle.cedar_schema_model.specs.Types.{permissive}
use Rattle.cedar_schema_types.specs.Types.{type_of}
use Rattle.cedar_schema_types.specs.Unions.{members_of}
use Rattle.cedar_typechecker_model.specs.Rules.{tags_of}
use Rattle.cedar_typechecker_rules.proofs.Joined.{left_to_join}
use Rattle.cedar_typechecker_rules.proofs.tags.tags_of_all.Given as goal

abbrev pub invariant-loop-ty : goal.invariant-loop-ty
invariant-loop-ty g l =
    let tags = tags_of (g.S.DeclaredAttributes.schema l.world.schema.now) in
    left_to_join permissive tags (type_of l.joined) (map type_name_of l.ty-iterator) ≡ option_and_then (reduce_to_join permissive) (all_given tags (members_of l.union))
