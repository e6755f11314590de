use Rattle.std.specs.List.{AllZip}
use Rattle.cedar_typechecker_answers.specs.Sequences.{IsHanded}
use Rattle.cedar_typechecker_answers.proofs.sequence.all_handed.Given as goal

abbrev pub invariant-loop-answer : goal.invariant-loop-answer
invariant-loop-answer l = AllZip IsHanded l.yielded l.parts.items
