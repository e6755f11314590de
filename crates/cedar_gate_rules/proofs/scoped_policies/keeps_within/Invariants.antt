use Rattle.std.proofs.Common.{◌≡◌, map}
use Rattle.std.specs.List.{list_all}
use Rattle.cedar_expr_model.specs.Parts.{subexpressions}
use Rattle.cedar_expr_trees.specs.Positions.{exprs_left}
use Rattle.cedar_expr_trees.specs.Trees.{tree_of}
use Rattle.cedar_gate_rules.specs.Rules.{keeps_here}
use Rattle.cedar_gate_rules.proofs.scoped_policies.keeps_within.Given as goal

abbrev pub invariant-loop-part : goal.invariant-loop-part
invariant-loop-part g l =
    list_all (keeps_here (g.S.DeclaredAttributes.schema l.schema) l.rule) (map tree_of (exprs_left l.part-iterator))
    ≡ list_all (keeps_here (g.S.DeclaredAttributes.schema l.schema) l.rule) (subexpressions (tree_of l.expr))
