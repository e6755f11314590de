use Rattle.std.proofs.Common.{◌++◌, map, ap, sym, ◌∙◌}
use Rattle.cedar_store_parts.specs.Parts.{id_text}
use Rattle.cedar_typechecker_environments.specs.Settings.{setting_of}
use Rattle.cedar_typechecker_policies.specs.Violations.{reached_in, violation_told, violated_by, level_of}
use Rattle.cedar_typechecker_policies.proofs.Said.{violated_here}
use Rattle.cedar_typechecker_policies.proofs.violations.add_reached_of.Goals as goal

pub returns-in_ok-add_reached-in-Some-typed : goal.returns-in_ok-add_reached-in-Some-typed
returns-in_ok-add_reached-in-Some-typed g c t h =
    let k = setting_of g.S.DeclaredAttributes.schema g.S.TypingSchema.table c.args.world.now in
    let id = id_text c.args.policy_id.now in
    c.in_ok-add_reached-in-Some-typed.ensures
    ∙ ap (λ vs. map violation_told c.args.found.now.items ++ map (reached_in id) vs)
    (violated_here k t id c.args.checked.now h c.typed_as_judged.ensures.judged c.typed_as_judged.ensures.same c.counted_on_marks.ensures c.in-Some.level.level c.in-Some-typed.typed c.in-Some-typed.is
    ∙ ap (λ l. violated_by (level_of l) k t) (sym c.in-Some.is))
