use Rattle.cedar_evaluator_contexts.proofs.Evaluated.{over_same}
use Rattle.cedar_evaluator_contexts.proofs.Records.{evaluates, left_of_record}
use Rattle.cedar_evaluator_contexts.proofs.contexts.evaluated.Goals as goal

pub returns-in-Ok : goal.returns-in-Ok
returns-in-Ok g c = λ s h.
    evaluates _ _ _ c.context_of_left.result (c.in-Ok.ensures s (over_same g.T.FunctionTable.table g.T.FunctionTable.answers_as _ _ s c.new.ensures h)) (left_of_record s _ c.args.expr.restricted) c.context_of_left.ensures

pub returns-in-Err : goal.returns-in-Err
returns-in-Err g c = λ s h i. c.in-Err.ensures s (over_same g.T.FunctionTable.table g.T.FunctionTable.answers_as _ _ s c.new.ensures h)
