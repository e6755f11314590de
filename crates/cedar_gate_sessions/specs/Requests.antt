-- What is known of a request.
-- Rule: conforming requests (docs/RULES.md).
use Rattle.cedar_store_model.specs.Store.{OpenRequest}
use Rattle.cedar_evaluator_model.specs.Known.{known_entry, known_context}
use Rattle.cedar_evaluator_model.specs.Response.{PartialRequest}

-- the request as far as it is known
abbrev pub known_request : PartialRequest → OpenRequest
known_request r = record { principal = known_entry r.principal; action = known_entry r.action; resource = known_entry r.resource; context = known_context r.context }
