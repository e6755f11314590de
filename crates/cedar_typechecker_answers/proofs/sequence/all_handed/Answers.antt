use Rattle.std.proofs.Common.{[], ◌∷◌, ◌++◌, sym, subst}
use Rattle.std.specs.List.{AllZip}
use Rattle.cedar_typechecker_answers.specs.Sequences.{IsHanded}
use Rattle.cedar_typechecker_answers.proofs.Sequenced.{pushed}
use Rattle.cedar_typechecker_answers.proofs.sequence.all_handed.Goals as goal

pub loop-answer-preserved : goal.loop-answer-preserved
loop-answer-preserved c =
    let w = c.loop-answer in
    subst (AllZip IsHanded (w.yielded ++ c.in-Some.answer ∷ [])) (sym c.in_ok-push.ensures.items) (pushed IsHanded w.yielded w.parts.items c.in-Some.answer c.in-Some-handed.part w.invariant c.in-Some-handed.ensures)
