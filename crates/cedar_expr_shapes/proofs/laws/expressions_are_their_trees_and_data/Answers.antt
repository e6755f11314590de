use Rattle.cedar_expr_trees.specs.contracts.expr.ExprPartialEq.TheImpl.Laws as equality
use Rattle.cedar_expr_shapes.proofs.Levels.{expr_by, kind_by, kind_is}
use Rattle.cedar_expr_shapes.proofs.SameTrees.{equal_exprs}
use Rattle.cedar_expr_shapes.proofs.laws.expressions_are_their_trees_and_data.Goals as goal

pub returns : goal.returns
returns g c =
    let T = g.row.T in
    let D = g.T.PartialEq in
    let d = g.T.PartialEq-dict in
    equal_exprs D.eq (kind_by T D d) (expr_by T D d) (equality.is T D d record { laws = g.met.T.PartialEq.laws }) (kind_is T D d record { laws = g.met.T.PartialEq.laws })
