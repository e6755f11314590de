use Rattle.std.proofs.Common.{◌≡◌, ◌++◌, map}
use Rattle.std.specs.List.{flat_map}
use Rattle.cedar_expr_trees.specs.Positions.{exprs_left}
use Rattle.cedar_expr_trees.specs.Trees.{tree_of}
use Rattle.cedar_store_policies.specs.Templates.{template_of}
use Rattle.cedar_typechecker_scopes.specs.Faults.{wrong_here, blamed, blame_of}
use Rattle.cedar_typechecker_scopes.specs.Rules.{rule_of}
use Rattle.cedar_typechecker_scopes.proofs.passes.wrong_within.Given as goal

abbrev pub invariant-loop-expr : goal.invariant-loop-expr
invariant-loop-expr g l =
    map blame_of l.found.items ++ blamed (template_of l.template).id (flat_map (wrong_here (g.S.DeclaredAttributes.schema l.schema) (rule_of l.rule)) (map tree_of (exprs_left l.expr-iterator)))
    ≡ blamed (template_of l.template).id (flat_map (wrong_here (g.S.DeclaredAttributes.schema l.schema) (rule_of l.rule)) (map tree_of (exprs_left l.initial.expr-iterator)))
