-- The law of the derived hash.
use Rattle.cedar_expr_leaves.specs.contracts.non_empty.NonEmptyHash.TheImpl.Laws as hash
use Rattle.cedar_expr.proofs.laws.lists_are_compared.Goals as goal

pub returns-clause-hash : goal.returns-clause-hash
returns-clause-hash g c xs ys e =
    let x = g.T in
    let m = g.met.T in
    hash.respects_eq-law g.row.T x.Hash x.Hash-dict x.Eq x.Eq-dict x.PartialEq x.PartialEq-dict
    record { respects_eq = m.Hash.respects_eq } record { laws = m.Eq.laws } record { laws = m.PartialEq.laws } xs ys e
