-- Contexts of requests are made as the definitions say.
use Rattle.std.proofs.Common.{Option, Some, None}
use Rattle.cedar_evaluator_requests.specs.Views.{context_or_unknown, request_of}
use Rattle.cedar_evaluator_requests.specs.declared.context.Context.{Context}
use Rattle.cedar_evaluator_requests.specs.declared.context.Context.TheVariants as known
use Rattle.cedar_evaluator_requests.specs.declared.request.Request.{Request}
use Rattle.cedar_gate_model.specs.RunsAsk.{IsMadeContext}

made_context : (o : Option Context) → IsMadeContext (context_or_unknown o)
made_context None = tt
made_context (Some (known.Value fs)) = tt
made_context (Some (known.RestrictedResidual r)) = (r.unfinished, r.restricted)

pub made_request : (q : Request) → IsMadeContext (request_of q).context
made_request q = made_context q.context
