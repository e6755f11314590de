use Rattle.std.proofs.Common.{rules, ap, map, sym, ◌∙◌}
use Rattle.std.specs.Rc.{rc_str_bytes}
use Rattle.cedar_schema_types.specs.Types.{type_of}
use Rattle.cedar_typechecker_environments.specs.Settings.{setting_of}
use Rattle.cedar_typechecker_levels.specs.Along.{fields_along}
use Rattle.cedar_typechecker_levels.specs.declared.path.Path.{the_lemmas}
use Rattle.cedar_typechecker_levels.specs.Marked.{type_in}
use Rattle.cedar_typechecker_levels.proofs.OfPaths.{fields_whole}
use Rattle.cedar_typechecker_levels.proofs.along.fields_before.Goals as goal

pub returns-in_ok-others-in-Some : goal.returns-in_ok-others-in-Some
returns-in_ok-others-in-Some g c =
    let s = setting_of g.S.DeclaredAttributes.schema g.S.TypingSchema.table c.args.world.now in
    let whole = fields_whole s (rc_str_bytes c.args.attrs.now.head) (map rc_str_bytes c.args.attrs.now.tail.items) (type_of c.in-Some.ty) (type_in c.in_ok-next-in-Some.next) (type_in c.args.ty.now) (map rc_str_bytes c.in_ok-others-in-Some.others.now)
    (ap type_in c.in-Some.is) c.in_ok-next-in-Some.ensures
    (c.in_ok-others-in-Some.ensures ∙ ap (λ xs. fields_along s (map rc_str_bytes xs) (type_in c.in_ok-next-in-Some.next)) c.as_slice.ensures.value)
    (sym c.is_entity_type.ensures ∙ c.if-is_entity_type.false) in
    search (rules, the_lemmas)
