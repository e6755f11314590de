use Rattle.std.proofs.lemmas.Grind.{common_steps}
use Rattle.std.proofs.Common.{map, arith, refl, ap, ◌∙◌}
use Rattle.cedar_expr_names.specs.Views.{name_of}
use Rattle.cedar_schema_decl.specs.Defined.{defined_of, with_entity}
use Rattle.cedar_schema_fragments.specs.Marked.{all_with}
use Rattle.cedar_schema_fragments.proofs.Marking.{marks_one, marks_all}
use Rattle.cedar_schema_fragments.proofs.all_defs.with_entities.Goals as goal

pub loop-entity-preserved : goal.loop-entity-preserved
loop-entity-preserved g c =
    marks_one (λ es. all_with with_entity (map (λ e. name_of e.0) es)) (λ e. with_entity (name_of e.0)) (λ x xs s. refl)
    _ c.loop-entity.entity-index _ (defined_of c.loop-entity.marked) (defined_of c.mark_as_defined_as_entity_type.new.self) _
    c.loop-entity-test.true
    (c.in_ok-mark_as_defined_as_entity_type.ensures.marked ∙ ap (λ n. with_entity n (defined_of c.loop-entity.marked)) (c.in_ok-clone.ensures.cases.0 ∙ ap (λ e. name_of e.0) c.entity-item.is))
    c.loop-entity.invariant

pub returns : goal.returns
returns g c = marks_all (λ es. all_with with_entity (map (λ e. name_of e.0) es)) (λ s. refl) _ c.loop-entity.entity-index _ _ (omega arith) c.loop-entity.invariant

pub loop-entity-init : goal.loop-entity-init
loop-entity-init g c = grind (arith, common_steps)
