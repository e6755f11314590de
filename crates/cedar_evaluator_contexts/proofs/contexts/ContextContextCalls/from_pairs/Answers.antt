use Rattle.std.proofs.Common.{map, ◌∙◌}
use Rattle.cedar_evaluator_requests.specs.Views.{context_of}
use Rattle.cedar_evaluator_restricted_exprs.specs.Views.{borrowed_of, restricted_pair}
use Rattle.cedar_evaluator_contexts.proofs.Records.{of_pairs}
use Rattle.cedar_evaluator_contexts.proofs.contexts.ContextContextCalls.from_pairs.Goals as goal

pub returns-in-Ok : goal.returns-in-Ok
returns-in-Ok g c = λ s h. of_pairs context_of s (map restricted_pair c.args.pairs.items) (borrowed_of c.as_borrowed.result) c.from_expr.result (c.as_borrowed.ensures.tree ∙ c.in-Ok.ensures.tree) c.in-Ok.ensures.distinct (c.from_expr.ensures s h)
