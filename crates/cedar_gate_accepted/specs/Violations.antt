-- The violations of policies at a level, as a refusal reports them.
-- Rule: levels; the acceptance rules (docs/RULES.md).
use Rattle.std.specs.Prelude.{◌≡◌, ℕ, List, map}
use Rattle.std.specs.List.{flat_map}
use Rattle.cedar_expr_model.specs.Table.{Table}
use Rattle.cedar_gate_model.specs.Acceptance.{Submission, schema_in}
use Rattle.cedar_schema_model.specs.Schema.{Schema}
use Rattle.cedar_store_model.specs.Policy.{Policy}
use Rattle.cedar_typechecker_model.specs.Alike.{AnswersAlike}
use Rattle.cedar_typechecker_model.specs.Verdicts.{policy_violations}
use Rattle.cedar_typechecker_policies.specs.Violations.{Reached, reached_in, violation_told}
use Rattle.cedar_typechecker_policies.specs.declared.violations.PolicyViolation.{PolicyViolation}

-- the violations of a policy, each with the policy's id, and those of policies in their order
abbrev pub violations_of : ℕ → Schema → Table → Policy → List Reached
violations_of n s x p = map (reached_in p.id) (policy_violations n s x p)

abbrev pub all_violations : ℕ → Schema → Table → List Policy → List Reached
all_violations n s x ps = flat_map (violations_of n s x) ps

-- These are the violations of all policies at the level, in policy order; those of a policy as they come in its environments, in the order in
-- which a schema has these that answers as that of the declarations does.
pub record AreViolationsOf (s : Submission) (vs : List PolicyViolation) : Type 0 where
  pub schema : Schema
  pub alike : AnswersAlike (schema_in s) schema
  pub all : map violation_told vs ≡ all_violations s.level schema s.table s.policies
