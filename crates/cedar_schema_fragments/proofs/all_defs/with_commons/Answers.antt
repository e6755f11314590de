use Rattle.std.proofs.lemmas.Grind.{common_steps}
use Rattle.std.proofs.Common.{map, arith, refl, ap, ◌∙◌}
use Rattle.cedar_expr_names.specs.Views.{name_of}
use Rattle.cedar_schema_decl.specs.Defined.{defined_of, with_common}
use Rattle.cedar_schema_fragments.specs.Marked.{all_with}
use Rattle.cedar_schema_fragments.proofs.Marking.{marks_one, marks_all}
use Rattle.cedar_schema_fragments.proofs.all_defs.with_commons.Goals as goal

pub loop-common-preserved : goal.loop-common-preserved
loop-common-preserved g c =
    marks_one (λ es. all_with with_common (map (λ e. name_of e.0) es)) (λ e. with_common (name_of e.0)) (λ x xs s. refl)
    _ c.loop-common.common-index _ (defined_of c.loop-common.marked) (defined_of c.mark_as_defined_as_common_type.new.self) _
    c.loop-common-test.true
    (c.in_ok-mark_as_defined_as_common_type.ensures.marked ∙ ap (λ n. with_common n (defined_of c.loop-common.marked)) (c.in_ok-clone.ensures.cases.0 ∙ ap (λ e. name_of e.0) c.common-item.is))
    c.loop-common.invariant

pub returns : goal.returns
returns g c = marks_all (λ es. all_with with_common (map (λ e. name_of e.0) es)) (λ s. refl) _ c.loop-common.common-index _ _ (omega arith) c.loop-common.invariant

pub loop-common-init : goal.loop-common-init
loop-common-init g c = grind (arith, common_steps)
