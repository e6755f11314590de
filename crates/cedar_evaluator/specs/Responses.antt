-- What a partial response is in the model.
-- Rule: partial responses (docs/RULES.md).
use Rattle.std.specs.Prelude.{map}
use Rattle.cedar_evaluator_model.specs.Response.{Response}
use Rattle.cedar_evaluator_requests.specs.Views.{error_of, request_of}
use Rattle.cedar_evaluator_requests.specs.Groups.{noted_seen, false_seen, residual_seen}
use Rattle.cedar_evaluator.specs.declared.partial_response.PartialResponse.{PartialResponse}

abbrev pub response_seen : PartialResponse → Response
response_seen r = record {
  true_permits = map noted_seen r.satisfied_permits.entries;
  false_permits = map false_seen r.false_permits.entries;
  residual_permits = map residual_seen r.residual_permits.entries;
  true_forbids = map noted_seen r.satisfied_forbids.entries;
  false_forbids = map false_seen r.false_forbids.entries;
  residual_forbids = map residual_seen r.residual_forbids.entries;
  errors = map error_of r.errors.items;
  request = request_of r.request.value;
}
