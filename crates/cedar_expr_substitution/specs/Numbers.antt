-- The numbers of refusals.
-- Rule: statuses and refusal numbers (docs/RULES.md).
use Rattle.std.specs.Prelude.{ℕ}
use Rattle.cedar_expr_substitution.specs.declared.err.SubstitutionError.{SubstitutionError}
use Rattle.cedar_expr_substitution.specs.declared.err.SubstitutionError.TheVariants.{OutOfMemory, TypeError}

abbrev pub substitution_error_number : SubstitutionError → ℕ
substitution_error_number OutOfMemory = 0
substitution_error_number (TypeError n e a) = 1
