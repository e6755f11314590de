use Rattle.std.proofs.Common.{◌||◌, ◌+◌, ◌∷◌, map, drop, ap, sym, ◌∙◌}
use Rattle.std.proofs.lemmas.List.{drop_more}
use Rattle.cedar_expr_names.specs.Views.{uid_of}
use Rattle.cedar_expr_trees.specs.Trees.{tree_of}
use Rattle.cedar_typechecker_environments.specs.Settings.{setting_of}
use Rattle.cedar_typechecker_rules.proofs.Included.{left_to_find, found_first, found_on}
use Rattle.cedar_typechecker_rules.proofs.inclusion.is_within_listed.Goals as goal

pub loop-e-init : goal.loop-e-init
loop-e-init g c = found_first (setting_of g.S.DeclaredAttributes.schema g.S.TypingSchema.table c.args.world.now) (uid_of c.args.uid.now) (map tree_of c.args.members.now)

pub loop-e-preserved : goal.loop-e-preserved
loop-e-preserved g c =
    let s = setting_of g.S.DeclaredAttributes.schema g.S.TypingSchema.table c.args.world.now in
    let u = uid_of c.args.uid.now in
    let es = c.args.members.now in
    let i = c.loop-e.e-index in
    let later = map tree_of (drop (i + 1) es) in
    ap (λ b. left_to_find s u b later) (c.found_by_now-is_found.ensures ∙ ap (λ b. c.loop-e.is_found || b) c.is_within.ensures)
    ∙ found_on s u c.loop-e.is_found (uid_of c.in-Some.above.now) (tree_of c.e-item.result) later c.in-Some.ensures
    ∙ ap (λ xs. left_to_find s u c.loop-e.is_found (map tree_of xs)) (sym (drop_more es i _ c.loop-e-test.true ∙ ap (λ e. e ∷ drop (i + 1) es) (sym c.e-item.is)))
    ∙ c.loop-e.invariant
