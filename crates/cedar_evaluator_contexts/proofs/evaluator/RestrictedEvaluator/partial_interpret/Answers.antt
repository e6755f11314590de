use Rattle.cedar_expr_trees.specs.Trees.{tree_of}
use Rattle.cedar_store_parts.specs.Parts.{bindings_of}
use Rattle.cedar_evaluator_restricted_exprs.specs.Views.{borrowed_of}
use Rattle.cedar_evaluator_contexts.proofs.Evaluated.{restricted_by}
use Rattle.cedar_evaluator_contexts.proofs.evaluator.RestrictedEvaluator.partial_interpret.Goals as goal

pub returns : goal.returns
returns g c = λ s h.
    restricted_by g.T.FunctionTable.table g.T.FunctionTable.answers_as c.new-evaluator.result c.args.self.now.table.now (bindings_of c.new-slots.result) (tree_of {T = Unit} c.expr.result.now) (borrowed_of c.args.e) c.partial_interpret.result s
    (record {
      tabled = c.new-evaluator.ensures.table;
      unbound = c.new-evaluator.ensures.unknowns;
      deep = c.new-evaluator.ensures.limit;
    })
    c.expr.ensures.tree c.expr.ensures.restricted c.partial_interpret.ensures.left h
