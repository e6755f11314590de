use Rattle.std.proofs.Common.{◌∙◌, rules}
use Rattle.cedar_evaluator_restricted_exprs.proofs.Names.{repeats_alike, refused_alike}
use Rattle.cedar_evaluator_restricted_exprs.proofs.restricted.RestrictedExpr.record.Goals as goal

pub returns-in_err-record-clause-refused : goal.returns-in_err-record-clause-refused
returns-in_err-record-clause-refused c =
    refused_alike c.in_ok-pairs.pairs.items _ c.from_residual-in_err-record.result c.in_ok-pairs.ensures.trees (search rules)

pub returns-clause-distinct : goal.returns-clause-distinct
returns-clause-distinct c = repeats_alike c.in_ok-pairs.pairs.items _ c.in_ok-pairs.ensures.trees ∙ c.in_ok-record.ensures.distinct
