use Rattle.std.proofs.Common.{◌≡◌, true, map}
use Rattle.cedar_expr_trees.specs.Trees.{tree_of}
use Rattle.cedar_evaluator_restricted_exprs.specs.Read.{are_restricted}
use Rattle.cedar_evaluator_restricted_exprs.specs.Views.{restricted_of}
use Rattle.cedar_evaluator_restricted_exprs.proofs.made.exprs_of.Given as goal

abbrev pub invariant-loop-part : goal.invariant-loop-part
invariant-loop-part l = record {
  trees : map tree_of l.exprs.items ≡ map restricted_of l.yielded;
  restricted : are_restricted (map tree_of l.exprs.items) ≡ true;
}
