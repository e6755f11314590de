use Rattle.std.proofs.Common.{arith, refl, ap, ◌∙◌}
use Rattle.cedar_schema_decl.specs.Defined.{defined_of}
use Rattle.cedar_schema_fragments.specs.Marked.{all_with, with_namespace}
use Rattle.cedar_schema_fragments.proofs.Marking.{marks_one, marks_all}
use Rattle.cedar_schema_fragments.proofs.all_defs.with_fragment.Goals as goal

pub loop-namespace-preserved : goal.loop-namespace-preserved
loop-namespace-preserved g c =
    marks_one (all_with with_namespace) with_namespace (λ x xs s. refl)
    _ c.loop-namespace.namespace-index _ (defined_of c.loop-namespace.marked) _ _
    c.loop-namespace-test.true
    (c.in_ok-marked.ensures ∙ ap (λ n. with_namespace n (defined_of c.loop-namespace.marked)) c.namespace-item.is)
    c.loop-namespace.invariant

pub returns : goal.returns
returns g c = marks_all (all_with with_namespace) (λ s. refl) _ c.loop-namespace.namespace-index _ _ (omega arith) c.loop-namespace.invariant
