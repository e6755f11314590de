-- What is handed to the gate, as a submission.
-- Rule: the acceptance rules (docs/RULES.md).
use Rattle.std.specs.Prelude.{◌≡◌, ℕ, List}
use Rattle.cedar_expr_functions.specs.Tables.{functions_of, ordered_of}
use Rattle.cedar_expr_functions.specs.declared.extensions.Extensions.{Extensions}
use Rattle.cedar_expr_leaves.specs.declared.raw_name.RawName.{RawName}
use Rattle.cedar_expr_model.specs.Name.{Name}
use Rattle.cedar_expr_model.specs.Table.{Signature}
use Rattle.cedar_gate_fragments.specs.Written.{declared_by}
use Rattle.cedar_gate_model.specs.Acceptance.{Submission, schema_in}
use Rattle.cedar_gate_rules.specs.Limit.{levels_of}
use Rattle.cedar_gate_rules.specs.Policies.{policies_of}
use Rattle.cedar_gate_rules.specs.declared.nest_limit.NestLimit.{NestLimit}
use Rattle.cedar_schema_decl.specs.declared.json_schema.Fragment.{Fragment}
use Rattle.cedar_schema_model.specs.Declarations.{Declarations}
use Rattle.cedar_schema_model.specs.Schema.{Schema}
use Rattle.cedar_store_model.specs.Policy.{Policy}
use Rattle.cedar_store_policies.specs.declared.policy.Policy.{Policy as CodePolicy}
use Rattle.cedar_typechecker_model.specs.Alike.{AnswersAlike}

-- The submission has these policies and this limit.
pub record HasPolicies (ps : List Policy) (levels : ℕ) (s : Submission) : Type 0 where
  pub policies : s.policies ≡ ps
  pub limit : s.limit ≡ levels

-- Its schema answers as this one does, and it has these policies.
pub record IsSeenBy (t : Schema) (ps : List Policy) (s : Submission) : Type 0 where
  pub schema : AnswersAlike (schema_in s) t
  pub policies : s.policies ≡ ps

-- It has these declarations, these policies and this limit, and a table of these functions, whatever they answer, that lists these
-- types as ordered.
pub record IsHandedIn (d : Declarations) (ps : List Policy) (fs : List Signature) (os : List Name) (levels : ℕ) (s : Submission) : Type 0 where
  pub declarations : s.declarations ≡ d
  pub policies : s.policies ≡ ps
  pub functions : s.table.functions ≡ fs
  pub ordered : s.table.ordered ≡ os
  pub limit : s.limit ≡ levels

-- These fragments, policies, table and limit are handed in.
abbrev pub IsHandedOver : {B : _} {F : _} {g : _} → List (Fragment RawName) → List CodePolicy → Extensions B F g → NestLimit → Submission → Type 0
IsHandedOver fs ps x limit s = IsHandedIn (declared_by fs) (policies_of ps) (functions_of x) (ordered_of x) (levels_of limit) s
