use Rattle.std.proofs.Common.{option_map}
use Rattle.cedar_evaluator_requests.specs.Views.{context_or_unknown, request_of}
use Rattle.cedar_gate_openings.proofs.Refused.{opens_where_fit}
use Rattle.cedar_gate_openings.proofs.names.check_names.Goals as goal

pub returns-clause-opens : goal.returns-clause-opens
returns-clause-opens c = opens_where_fit c.check_context.result (request_of c.args.request.now) (context_or_unknown (option_map (λ k. k.now) c.context.result)) c.context.ensures c.check_context.ensures.fit
