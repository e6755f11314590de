-- The environments of a policy, lent or made.
-- Rule: environments (docs/RULES.md).
use Rattle.std.specs.Prelude.{◌≡◌, List, map}
use Rattle.cedar_schema_model.specs.Environment.{environments}
use Rattle.cedar_schema_model.specs.Schema.{Schema}
use Rattle.cedar_store_model.specs.Policy.{Policy}
use Rattle.cedar_typechecker_model.specs.Verdicts.{policy_environments}
use Rattle.cedar_typechecker_environments.specs.Settings.{environment_of}
use Rattle.cedar_typechecker_environments.specs.declared.request_env.RequestEnv.{RequestEnv}
use Rattle.cedar_typechecker_scopes.specs.declared.environments.PolicyEnvironments.{PolicyEnvironments}
use Rattle.cedar_typechecker_scopes.specs.declared.environments.PolicyEnvironments.TheVariants.{OfSchema, WithSlots}

-- these are the environments of the schema
abbrev pub AreOfSchema : Schema → List RequestEnv → Type 0
AreOfSchema s es = map environment_of es ≡ environments s

abbrev pub environments_in : PolicyEnvironments → List RequestEnv
environments_in (OfSchema es) = es.now
environments_in (WithSlots es) = es.items

-- these are the environments of the policy
abbrev pub AreOfPolicy : Schema → Policy → PolicyEnvironments → Type 0
AreOfPolicy s p es = map environment_of (environments_in es) ≡ policy_environments s p
