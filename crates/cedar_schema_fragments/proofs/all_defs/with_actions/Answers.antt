use Rattle.std.proofs.lemmas.Grind.{common_steps}
use Rattle.std.proofs.Common.{map, arith, refl, ap, ◌∙◌}
use Rattle.cedar_expr_names.specs.Views.{uid_of}
use Rattle.cedar_schema_decl.specs.Defined.{defined_of, with_action}
use Rattle.cedar_schema_fragments.specs.Marked.{all_with}
use Rattle.cedar_schema_fragments.proofs.Marking.{marks_one, marks_all}
use Rattle.cedar_schema_fragments.proofs.all_defs.with_actions.Goals as goal

pub loop-action-preserved : goal.loop-action-preserved
loop-action-preserved g c =
    marks_one (λ es. all_with with_action (map (λ e. uid_of e.0) es)) (λ e. with_action (uid_of e.0)) (λ x xs s. refl)
    _ c.loop-action.action-index _ (defined_of c.loop-action.marked) (defined_of c.mark_as_defined_as_action.new.self) _
    c.loop-action-test.true
    (c.in_ok-mark_as_defined_as_action.ensures.marked ∙ ap (λ n. with_action n (defined_of c.loop-action.marked)) (c.in_ok-clone.ensures.cases.0 ∙ ap (λ e. uid_of e.0) c.action-item.is))
    c.loop-action.invariant

pub returns : goal.returns
returns g c = marks_all (λ es. all_with with_action (map (λ e. uid_of e.0) es)) (λ s. refl) _ c.loop-action.action-index _ _ (omega arith) c.loop-action.invariant

pub loop-action-init : goal.loop-action-init
loop-action-init g c = grind (arith, common_steps)
