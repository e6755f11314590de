-- What a gate was handed, as a submission.
-- Rule: the acceptance rules (docs/RULES.md).
use Rattle.std.specs.Prelude.{◌≡◌, ℕ, List}
use Rattle.cedar_expr_functions.specs.Tables.{functions_of, ordered_of, table_of}
use Rattle.cedar_expr_functions.specs.declared.extensions.Extensions.{Extensions}
use Rattle.cedar_expr_leaves.specs.declared.raw_name.RawName.{RawName}
use Rattle.cedar_expr_model.specs.Name.{Name}
use Rattle.cedar_expr_model.specs.Table.{Table, Called}
use Rattle.cedar_expr_model.specs.Value.{V}
use Rattle.cedar_gate_accepted.specs.Handed.{IsHandedIn}
use Rattle.cedar_gate_fragments.specs.Written.{declared_by}
use Rattle.cedar_gate_model.specs.Acceptance.{Submission, IsAccepted}
use Rattle.cedar_gate_rules.specs.Limit.{levels_of}
use Rattle.cedar_gate_rules.specs.Policies.{policies_of}
use Rattle.cedar_gate_rules.specs.declared.nest_limit.NestLimit.{NestLimit}
use Rattle.cedar_schema_decl.specs.declared.json_schema.Fragment.{Fragment}
use Rattle.cedar_schema_model.specs.Declarations.{Declarations}
use Rattle.cedar_store_policies.specs.declared.policy.Policy.{Policy}

-- the submission of these
abbrev pub submission_with : Declarations → List Policy → Table → ℕ → NestLimit → Submission
submission_with d ps table level limit = record { declarations = d; policies = policies_of ps; table = table; level = level; limit = levels_of limit }

-- for each submission that is handed in so, with this level
abbrev pub ForEachHandedIn : {B : _} {F : _} {g : _} → List (Fragment RawName) → List Policy → Extensions B F g → ℕ → NestLimit → (Submission → Type 0) → Type 0
ForEachHandedIn fs ps t level limit holds = (s : Submission) → IsHandedIn (declared_by fs) (policies_of ps) (functions_of t) (ordered_of t) (levels_of limit) s → s.level ≡ level → holds s

-- what is handed in so is accepted, whatever the functions of the table answer
abbrev pub AreAccepted : {B : _} {F : _} {g : _} → List (Fragment RawName) → List Policy → Extensions B F g → ℕ → NestLimit → Type 0
AreAccepted fs ps t level limit = (answers : Name → List V → Called) → IsAccepted (submission_with (declared_by fs) ps (table_of t answers) level limit)
