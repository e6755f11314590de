-- The checks of a policy in its environments, one after the other.
-- Rule: the acceptance rules; environments (docs/RULES.md).
use Rattle.std.specs.Prelude.{◌≡◌, List, [], ◌∷◌, ◌++◌, map, length, ℕ, suc, if◌then◌else◌, Option, MatchOption, Result, MatchResult}
use Rattle.std.specs.declared.alloc.AllocError.{AllocError}
use Rattle.cedar_expr_model.specs.Table.{Table}
use Rattle.cedar_schema_joins.specs.Modes.{mode_of}
use Rattle.cedar_schema_model.specs.Environment.{Environment}
use Rattle.cedar_schema_model.specs.Schema.{Schema}
use Rattle.cedar_schema_model.specs.Types.{Mode}
use Rattle.cedar_store_model.specs.Policy.{Policy}
use Rattle.cedar_store_policies.specs.Templates.{template_of}
use Rattle.cedar_typechecker_environments.specs.Settings.{environment_of}
use Rattle.cedar_typechecker_environments.specs.declared.request_env.RequestEnv.{RequestEnv}
use Rattle.cedar_typechecker_model.specs.Verdicts.{in_mode, policy_environments}
use Rattle.cedar_typechecker_policies.specs.Checks.{IsCheckOf}
use Rattle.cedar_typechecker_policies.specs.declared.check.PolicyCheck.{PolicyCheck}
use Rattle.cedar_typechecker_policies.specs.declared.checks.RequestEnvChecks.{RequestEnvChecks}

-- by what, in which mode and of which policy the checks are
module _ {S : Type 0} where
  abbrev pub schema_checked : (S → Schema) → RequestEnvChecks S → Schema
  schema_checked schema i = schema i.schema.now

  abbrev pub table_checked : (S → Table) → RequestEnvChecks S → Table
  table_checked table i = table i.schema.now

  abbrev pub mode_checked : RequestEnvChecks S → Mode
  mode_checked i = mode_of i.mode

  abbrev pub policy_checked : RequestEnvChecks S → Policy
  policy_checked i = template_of i.template.now

module _ {S : Type 0} (schema : S → Schema) (table : S → Table) where
  -- the environments whose checks are still to come
  abbrev pub environments_left : RequestEnvChecks S → List Environment
  environments_left i = if i.is_begun then map environment_of i.envs.items else policy_environments (schema i.schema.now) (template_of i.template.now)

  -- how many items may still come: one for each environment, and, before the first, one that says that memory ran out
  abbrev pub items_to_come : RequestEnvChecks S → ℕ
  items_to_come i = if i.is_begun then length i.envs.items else suc (length (policy_environments (schema i.schema.now) (template_of i.template.now)))

  -- what is checked stays
  abbrev pub ChecksTheSame : RequestEnvChecks S → RequestEnvChecks S → Type 0
  ChecksTheSame i j = (schema j.schema.now ≡ schema i.schema.now) × (table j.schema.now ≡ table i.schema.now) × (j.mode ≡ i.mode) × (template_of j.template.now ≡ template_of i.template.now)

  -- One of the environments that are left, with its check; or out of memory, after which none is left.
  abbrev pub Item : Type 0
  Item = Result (RequestEnv × PolicyCheck) AllocError

  -- the check in an environment
  abbrev pub IsCheckIn : RequestEnvChecks S → Environment → PolicyCheck → Type 0
  IsCheckIn i e = IsCheckOf (in_mode (mode_checked i) (schema_checked schema i) (table_checked table i) e) (policy_checked i)

  abbrev pub GivesCheck : RequestEnvChecks S → RequestEnvChecks S → Item → Type 0
  GivesCheck i j r = MatchResult r
      (λ p. (environments_left i ≡ environments_left j ++ environment_of p.0 ∷ []) × IsCheckIn i (environment_of p.0) p.1)
      (λ e. environments_left j ≡ [])

  abbrev pub NextCheck : RequestEnvChecks S → Option Item → RequestEnvChecks S → Type 0
  NextCheck i o j = ChecksTheSame i j × MatchOption o ((environments_left i ≡ []) × (environments_left j ≡ [])) (GivesCheck i j)
