use Rattle.std.proofs.Common.{◌≡◌, ◌≤◌, ◌++◌, length}
use Rattle.cedar_evaluator_reads.proofs.Five.{texts}
use Rattle.cedar_evaluator_reads.proofs.missing.first_names.Given as goal

abbrev pub invariant-loop-name : goal.invariant-loop-name
invariant-loop-name g l = record {
  names : texts l.first.items ++ texts l.name-iterator ≡ texts l.fn.names;
  few : length l.first.items ≤ 5;
}
