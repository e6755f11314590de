use Rattle.cedar_evaluator_restricted_exprs.specs.Views.{pairs_left}
use Rattle.cedar_evaluator_contexts.proofs.Records.{some_read}
use Rattle.cedar_evaluator_contexts.proofs.contexts.ContextContextCalls.from_expr.Goals as goal

pub returns-in-Ok : goal.returns-in-Ok
returns-in-Ok g c = λ s h. (some_read pairs_left c.as_record_pairs.result _ c.as_record_pairs.ensures c.if-is_none.ensures, c.in-Ok.ensures s h)

pub returns-in-Err : goal.returns-in-Err
returns-in-Err g c = λ s h.
    let i = some_read pairs_left c.as_record_pairs.result _ c.as_record_pairs.ensures c.if-is_none.ensures in
    (i, c.in-Err.ensures s h i)
