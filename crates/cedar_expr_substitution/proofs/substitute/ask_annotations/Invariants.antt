use Rattle.std.proofs.Common.{◌≡◌}
use Rattle.cedar_expr_model.specs.Lists.{first_found}
use Rattle.cedar_expr_model.specs.Substitution.{mismatch, mismatch_at}
use Rattle.cedar_expr_trees.specs.Trees.{tree_of}
use Rattle.cedar_expr_trees.specs.Positions.{unknowns_left}
use Rattle.cedar_expr_substitution.specs.Bound.{bindings_of}
use Rattle.cedar_expr_substitution.proofs.substitute.ask_annotations.Given as goal

abbrev pub invariant-loop-u : goal.invariant-loop-u
invariant-loop-u g l =
    let env = bindings_of g.X.ExtensionValue.seen l.bindings in
    mismatch env (tree_of l.e) ≡ first_found (λ u. mismatch_at u.name u.annotation (env u.name)) (unknowns_left l.u-iterator)
