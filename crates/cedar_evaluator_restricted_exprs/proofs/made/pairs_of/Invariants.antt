use Rattle.std.proofs.Common.{◌≡◌, true, map}
use Rattle.cedar_expr_trees.specs.Trees.{named, field_trees}
use Rattle.cedar_evaluator_restricted_exprs.specs.Read.{have_restricted}
use Rattle.cedar_evaluator_restricted_exprs.specs.Views.{restricted_pair}
use Rattle.cedar_evaluator_restricted_exprs.proofs.made.pairs_of.Given as goal

abbrev pub invariant-loop-name : goal.invariant-loop-name
invariant-loop-name l = record {
  trees : named (field_trees l.pairs.items) ≡ map restricted_pair l.yielded;
  restricted : have_restricted (named (field_trees l.pairs.items)) ≡ true;
}
