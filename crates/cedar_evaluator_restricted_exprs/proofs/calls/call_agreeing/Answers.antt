use Rattle.cedar_evaluator_restricted_exprs.proofs.calls.call_agreeing.Goals as goal

pub returns-in-Ok : goal.returns-in-Ok
returns-in-Ok g c = λ x a. c.in-Ok.ensures x x.table.answers a.table a.answered

pub returns-in-Err : goal.returns-in-Err
returns-in-Err g c = λ x a. c.in-Err.ensures x x.table.answers a.table a.answered
