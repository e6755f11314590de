use Rattle.cedar_typechecker.proofs.laws.built_schemas_answer_alike.Goals as goal

pub returns-clause-closed : goal.returns-clause-closed
returns-clause-closed c = λ x fs k h. c.seen_schemas_answer_alike.ensures.closed _ k h.keeps

pub returns-clause-alike : goal.returns-clause-alike
returns-clause-alike c = λ x fs k h d w. c.seen_schemas_answer_alike.ensures.declared d k (h.keeps d w)
