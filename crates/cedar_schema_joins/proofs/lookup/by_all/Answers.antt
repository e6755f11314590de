use Rattle.std.proofs.Common.{map, option_map, sym, ap, ◌∙◌}
use Rattle.cedar_expr_names.specs.Views.{type_name_of}
use Rattle.cedar_schema_types.specs.Types.{type_of, attribute_of}
use Rattle.cedar_schema_joins.proofs.Shared.{left_to_join, member_apart}
use Rattle.cedar_schema_joins.proofs.lookup.by_all.Goals as goal

pub returns-in-None-2 : goal.returns-in-None-2
returns-in-None-2 g c =
    let s = g.S.DeclaredAttributes.schema c.args.schema.now in
    let a = c.args.attr.now in
    let joined = type_of c.loop-ty.joined in
    member_apart s a joined c.loop-ty.is_required (type_name_of c.in-Some.ty.now) (map type_name_of c.next.new.self) (attribute_of c.in-Some-by_one.declared.now) _
    (ap (λ ts. left_to_join s a joined c.loop-ty.is_required (map type_name_of ts)) (sym c.in-Some.ensures.steps) ∙ c.loop-ty.invariant)
    c.in-Some-by_one.ensures
    (sym (ap (option_map type_of) c.in-None-2.is) ∙ c.in_ok-next-in-Some-by_one.ensures)
