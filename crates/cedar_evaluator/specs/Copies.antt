-- When a copy of a partial response is the same response.
-- Rule: partial responses (docs/RULES.md).
use Rattle.std.specs.Prelude.{◌≡◌}
use Rattle.std.specs.List.{AllZip}
use Rattle.cedar_evaluator_requests.specs.Copies.{IsSamePolicyError}
use Rattle.cedar_evaluator.specs.Responses.{response_seen}
use Rattle.cedar_evaluator.specs.declared.partial_response.PartialResponse.{PartialResponse}

-- The copy has the same groups, errors and request, and each of its errors is the same error.
pub record IsSameResponse (r copy : PartialResponse) : Type 0 where
  pub seen : response_seen copy ≡ response_seen r
  pub errors : AllZip IsSamePolicyError r.errors.items copy.errors.items
