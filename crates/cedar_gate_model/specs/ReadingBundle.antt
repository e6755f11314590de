-- Reading a bundle.
-- Rule: what a bundle reads as (docs/RULES.md).
use Rattle.std.specs.Prelude.{ℕ, List, [], ◌∷◌, Bool, codes, Option, Some, option_map}
use Rattle.std.specs.Str.{is_utf8}
use Rattle.serde_json.specs.Data.{Data}
use Rattle.serde_json.specs.Read.{read}
use Rattle.cedar_gate_model.specs.Reading.{given, required, has_only, list_of}
use Rattle.cedar_gate_model.specs.Acceptance.{Submission}
use Rattle.cedar_evaluator_model.specs.Functions.{Functions}
use Rattle.cedar_gate_model.specs.Bundle.{Bundle}
use Rattle.cedar_gate_model.specs.ReadingForms.{first_form, number_between, is_number}
use Rattle.cedar_gate_model.specs.ReadingSchema.{schema_read}
use Rattle.cedar_gate_model.specs.ReadingExpression.{Version, first, second}
use Rattle.cedar_gate_model.specs.ReadingPolicy.{policy_read}
use Rattle.cedar_gate_model.specs.ReadingRequest.{request_read, store_read, steps_read}
use Rattle.cedar_expr_model.specs.Lists.{when}

-- a version, which is the number 1 or 2
abbrev pub version_read : Data → Option Version
version_read d = first_form ((λ e. when (is_number 1 e) (Some first)) ∷ (λ e. when (is_number 2 e) (Some second)) ∷ []) d

-- what is handed to the gate
abbrev pub submission_read : Functions → Data → Option Submission
submission_read x d =
    given (required (codes "version") version_read d) (λ version.
    given (required (codes "level") (number_between 0 4294967295) d) (λ level.
    given (required (codes "limit") (number_between 1 512) d) (λ limit.
    given (required (codes "schema") schema_read d) (λ declarations.
    option_map (λ policies. record { declarations = declarations; policies = policies; table = x.table; level = level; limit = limit })
    (required (codes "policies") (list_of (policy_read version)) d)))))

-- the keys of a bundle alone
abbrev pub is_bundle : Data → Bool
is_bundle d = has_only (codes "version" ∷ codes "level" ∷ codes "limit" ∷ codes "schema" ∷ codes "policies" ∷ codes "request" ∷ codes "store" ∷ codes "steps" ∷ []) d

-- a bundle
abbrev pub bundle_read : Functions → Data → Option Bundle
bundle_read x d =
    when (is_bundle d)
    (given (submission_read x d) (λ submission.
    given (required (codes "request") (request_read x) d) (λ start.
    given (required (codes "store") (store_read x) d) (λ store.
    option_map (λ steps. record { submission = submission; start = start; store = store; steps = steps }) (steps_read x d)))))

-- A whole input, which is UTF-8 and JSON.
unfoldable pub input_read : Functions → List ℕ → Option Bundle
input_read x bytes = when (is_utf8 bytes) (given (read bytes) (bundle_read x))
