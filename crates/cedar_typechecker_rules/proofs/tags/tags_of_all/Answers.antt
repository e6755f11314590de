use Rattle.std.proofs.Common.{map, option_map, ap, sym, ◌∙◌}
use Rattle.cedar_expr_names.specs.Views.{type_name_of}
use Rattle.cedar_schema_model.specs.Types.{permissive}
use Rattle.cedar_schema_types.specs.Types.{type_of}
use Rattle.cedar_typechecker_model.specs.Rules.{tags_of}
use Rattle.cedar_typechecker_rules.proofs.Joined.{left_to_join, joins_apart}
use Rattle.cedar_typechecker_rules.proofs.tags.tags_of_all.Goals as goal

pub returns-in-None-2 : goal.returns-in-None-2
returns-in-None-2 g c =
    let tags = tags_of (g.S.DeclaredAttributes.schema c.args.world.now.schema.now) in
    let joined = type_of c.loop-ty.joined in
    joins_apart permissive tags joined (type_of c.in-Some-tags.tags.now) (type_name_of c.in-Some.ty.now) (map type_name_of c.next.new.self) _
    (ap (λ ts. left_to_join permissive tags joined (map type_name_of ts)) (sym c.in-Some.ensures.steps) ∙ c.loop-ty.invariant)
    c.in-Some-tags.ensures
    (sym (ap (option_map type_of) c.in-None-2.is) ∙ c.in_ok-next.ensures)
