use Rattle.cedar_expr_check_cases.proofs.tables.function.Goals as goal

pub nullary-requires : goal.nullary-requires
nullary-requires g c = c.requires _

pub partial_eval_unknown-requires : goal.partial_eval_unknown-requires
partial_eval_unknown-requires g c = c.requires _

pub unary-requires : goal.unary-requires
unary-requires g c = c.requires _

pub variadic-requires-clause-stored : goal.variadic-requires-clause-stored
variadic-requires-clause-stored g c = c.requires _

pub binary-requires : goal.binary-requires
binary-requires g c = c.requires _

pub ternary-requires : goal.ternary-requires
ternary-requires g c = c.requires _
