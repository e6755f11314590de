-- What a gate holds, and which submissions are what it was handed.
-- Rule: the acceptance rules (docs/RULES.md).
use Rattle.std.specs.Prelude.{◌≡◌, ℕ, List, map}
use Rattle.cedar_expr_functions.specs.Tables.{functions_of, ordered_of}
use Rattle.cedar_expr_functions.specs.declared.extensions.Extensions.{Extensions}
use Rattle.cedar_evaluator_restricted_exprs.specs.Answers.{AgreesWith}
use Rattle.cedar_gate_accepted.specs.Handed.{IsHandedIn}
use Rattle.cedar_gate.specs.declared.gate.Gate.{Gate}
use Rattle.cedar_gate_fragments.specs.Written.{declared_by}
use Rattle.cedar_gate_model.specs.Acceptance.{Submission, warnings_of}
use Rattle.cedar_gate_model.specs.Session.{Setup}
use Rattle.cedar_gate_rules.specs.Limit.{levels_of}
use Rattle.cedar_gate_rules.specs.Policies.{policies_of}
use Rattle.cedar_gate_rules.specs.declared.nest_limit.NestLimit.{NestLimit}
use Rattle.cedar_schema_built.specs.declared.schema.ValidatorSchema.{ValidatorSchema}
use Rattle.cedar_schema_model.specs.Declarations.{Declarations}
use Rattle.cedar_schema_model.specs.Resolved.{schema_of}
use Rattle.cedar_schema_model.specs.Schema.{Schema}
use Rattle.cedar_store_model.specs.Policy.{Policy as ModelPolicy}
use Rattle.cedar_store_parts.specs.Parts.{id_text}
use Rattle.cedar_store_parts.specs.declared.policy_id.PolicyID.{PolicyID}
use Rattle.cedar_store_policies.specs.declared.policy.Policy.{Policy}

-- the declarations, the built schema, the policies, the table, the level, the limit, and the ids that are warned of
abbrev pub declared_in : {B : _} {F : _} {g : _} → Gate B F g → Declarations
declared_in g = declared_by g.fragments.now

-- the schema of the declarations
abbrev pub schema_at : {B : _} {F : _} {g : _} → Gate B F g → Schema
schema_at g = schema_of (declared_in g)

abbrev pub schema_built : {B : _} {F : _} {g : _} → Gate B F g → ValidatorSchema
schema_built g = g.schema

abbrev pub policies_held : {B : _} {F : _} {g : _} → Gate B F g → List Policy
policies_held g = g.policies.items

abbrev pub table_held : {B : _} {F : _} {g : _} → Gate B F g → Extensions B F g
table_held g = g.table.now

abbrev pub level_held : {B : _} {F : _} {g : _} → Gate B F g → ℕ
level_held g = g.level

abbrev pub limit_held : {B : _} {F : _} {g : _} → Gate B F g → NestLimit
limit_held g = g.limit

abbrev pub warned_of : {B : _} {F : _} {g : _} → Gate B F g → List PolicyID
warned_of g = g.warnings.items

-- the gate warns of the policies that the submission warns of
abbrev pub WarnsOf : {B : _} {F : _} {g : _} → Gate B F g → Submission → Type 0
WarnsOf g s = map id_text (warned_of g) ≡ warnings_of s

-- The submission is what the gate was handed.
pub record IsOf {B : _} {F : _} {γ : _} (g : Gate B F γ) (s : Submission) : Type 0 where
  pub handed : IsHandedIn (declared_in g) (policies_of (policies_held g)) (functions_of (table_held g)) (ordered_of (table_held g)) (levels_of (limit_held g)) s
  pub level : s.level ≡ level_held g

-- The setup is one of the gate: its schema, level and limit are the gate's, and the gate's table agrees with its functions.
pub record IsSetupOf {B : _} {F : _} {γ : _} (g : Gate B F γ) (x : Setup) : Type 0 where
  pub schema : schema_at g ≡ x.schema
  pub level : level_held g ≡ x.level
  pub limit : levels_of (limit_held g) ≡ x.limit
  pub agrees : AgreesWith (table_held g) x.functions

-- the policies, as the model has them
abbrev pub accepted_in : {B : _} {F : _} {γ : _} → Gate B F γ → List ModelPolicy
accepted_in g = policies_of (policies_held g)
