-- Whether it holds of an unknown that is left.
use Rattle.std.proofs.Common.{◌≡◌}
use Rattle.std.specs.List.{list_any}
use Rattle.cedar_expr_model.specs.Parts.{unknowns}
use Rattle.cedar_expr_trees.specs.Trees.{tree_of}
use Rattle.cedar_expr_trees.specs.Positions.{unknowns_left}
use Rattle.cedar_gate_openings.proofs.asks.any_unknown.Given as goal

abbrev pub invariant-loop-unknown : goal.invariant-loop-unknown
invariant-loop-unknown g l = list_any (g.A.Asks.holds l.question) (unknowns (tree_of l.e)) ≡ list_any (g.A.Asks.holds l.question) (unknowns_left l.unknown-iterator)
