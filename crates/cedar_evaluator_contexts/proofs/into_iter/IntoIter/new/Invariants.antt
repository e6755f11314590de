use Rattle.std.proofs.Common.{◌≡◌, ◌++◌, [], map}
use Rattle.std.specs.Prelude.{unwrap_or}
use Rattle.cedar_evaluator_restricted_exprs.specs.Read.{fields_read}
use Rattle.cedar_evaluator_restricted_exprs.specs.Views.{borrowed_of, restricted_pair, pairs_left}
use Rattle.cedar_evaluator_contexts.proofs.into_iter.IntoIter.new.Given as goal

abbrev pub invariant-loop-name : goal.invariant-loop-name
invariant-loop-name l = map restricted_pair l.pairs.items ++ pairs_left l.name-iterator ≡ unwrap_or (fields_read (borrowed_of l.fn.expr)) []
