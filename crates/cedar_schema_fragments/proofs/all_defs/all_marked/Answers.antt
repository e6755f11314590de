use Rattle.std.proofs.Common.{arith, refl, ap, ◌∙◌}
use Rattle.cedar_schema_decl.specs.Defined.{defined_of}
use Rattle.cedar_schema_fragments.specs.Marked.{all_with, with_fragment}
use Rattle.cedar_schema_fragments.proofs.Marking.{marks_one, marks_all}
use Rattle.cedar_schema_fragments.proofs.all_defs.all_marked.Goals as goal

pub loop-fragment-preserved : goal.loop-fragment-preserved
loop-fragment-preserved g c =
    marks_one (all_with with_fragment) with_fragment (λ x xs s. refl)
    c.args.fragments.now c.loop-fragment.fragment-index _ (defined_of c.loop-fragment.marked) _ _
    c.loop-fragment-test.true
    (c.in_ok-marked.ensures ∙ ap (λ n. with_fragment n (defined_of c.loop-fragment.marked)) c.fragment-item.is)
    c.loop-fragment.invariant

pub returns : goal.returns
returns g c = marks_all (all_with with_fragment) (λ s. refl) c.args.fragments.now c.loop-fragment.fragment-index _ _ (omega arith) c.loop-fragment.invariant
