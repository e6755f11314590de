-- When a copy of the error of a policy is the same error.
-- Rule: partial responses (docs/RULES.md).
use Rattle.std.specs.Prelude.{◌≡◌}
use Rattle.cedar_evaluator_errors.specs.Contents.{IsSameError}
use Rattle.cedar_evaluator_requests.specs.Views.{error_of, error_in}
use Rattle.cedar_evaluator_requests.specs.declared.response.AuthorizationError.{AuthorizationError}

-- The copy is of the same policy, and reports the same error.
pub record IsSamePolicyError (e copy : AuthorizationError) : Type 0 where
  pub seen : error_of copy ≡ error_of e
  pub error : IsSameError (error_in e) (error_in copy)
