-- Equality goes by parts, and equal expressions feed a hasher alike: what the derived comparison and hash keep.
use Rattle.cedar_expr_trees.specs.contracts.expr.ExprPartialEq.TheImpl.Laws as equality
use Rattle.cedar_expr_trees.specs.contracts.expr.ExprEq.TheImpl.Laws as equivalence
use Rattle.cedar_expr_trees.specs.contracts.expr.ExprHash.TheImpl.Laws as hashing
use Rattle.cedar_expr_trees.proofs.laws.expressions_are_compared.Goals as goal

pub returns-clause-equality : goal.returns-clause-equality
returns-clause-equality g c = λ e f. equality.is g.row.T g.T.PartialEq g.T.PartialEq-dict record { laws = g.met.T.PartialEq.laws } e f

pub returns-clause-equivalence : goal.returns-clause-equivalence
returns-clause-equivalence g c =
    equivalence.laws-law g.row.T g.T.Eq g.T.Eq-dict g.T.PartialEq g.T.PartialEq-dict record { laws = g.met.T.Eq.laws } record { laws = g.met.T.PartialEq.laws }

pub returns-clause-hash : goal.returns-clause-hash
returns-clause-hash g c = λ e f.
    hashing.respects_eq-law g.row.T g.T.Hash g.T.Hash-dict g.T.Eq g.T.Eq-dict g.T.PartialEq g.T.PartialEq-dict
    record { respects_eq = g.met.T.Hash.respects_eq } record { laws = g.met.T.Eq.laws } record { laws = g.met.T.PartialEq.laws } e f
