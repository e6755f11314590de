use Rattle.std.proofs.Common.{ap, map, ◌∙◌}
use Rattle.std.specs.Rc.{rc_str_bytes}
use Rattle.cedar_schema_types.specs.Types.{type_of}
use Rattle.cedar_typechecker_environments.specs.Settings.{setting_of}
use Rattle.cedar_typechecker_model.specs.Levels.{needed}
use Rattle.cedar_typechecker_levels.specs.Along.{entity_steps_along}
use Rattle.cedar_typechecker_levels.specs.Marked.{type_in}
use Rattle.cedar_typechecker_levels.proofs.OfPaths.{steps_whole}
use Rattle.cedar_typechecker_levels.proofs.along.entity_steps.Goals as goal

pub returns-in_ok-later-in-Some : goal.returns-in_ok-later-in-Some
returns-in_ok-later-in-Some g c =
    let s = setting_of g.S.DeclaredAttributes.schema g.S.TypingSchema.table c.args.world.now in
    steps_whole s (rc_str_bytes c.args.attrs.now.head) (map rc_str_bytes c.args.attrs.now.tail.items) (type_of c.in-Some.ty) (type_in c.in_ok-next-in-Some.next) (type_in c.args.ty.now) c.further.result c.in_ok-later-in-Some.later c.step_on.result
    (ap type_in c.in-Some.is) c.in_ok-next-in-Some.ensures
    (c.in_ok-later-in-Some.ensures ∙ ap (λ xs. needed (entity_steps_along s (map rc_str_bytes xs) (type_in c.in_ok-next-in-Some.next))) c.as_slice.ensures.value)
    c.step_on.ensures c.further.ensures
