-- What typing and levels say of policies, together.
-- Rule: the acceptance rules; impossible policies (docs/RULES.md).
use Rattle.std.specs.Prelude.{◌≡◌, ℕ, List, map, not, true, ◌++◌, [], ◌∷◌}
use Rattle.std.specs.List.{list_all, filter}
use Rattle.std.specs.declared.alloc.Global.{Global}
use Rattle.std.specs.declared.vec.Vec.{Vec}
use Rattle.cedar_expr_functions.specs.Tables.{table_of}
use Rattle.cedar_expr_functions.specs.declared.extensions.Extensions.{Extensions}
use Rattle.cedar_expr_model.specs.Name.{Text}
use Rattle.cedar_expr_model.specs.Lists.{is_nil}
use Rattle.cedar_expr_model.specs.Table.{Table}
use Rattle.cedar_gate_accepted.specs.declared.checked.Checked.{Checked}
use Rattle.cedar_gate_model.specs.Acceptance.{Submission, ill_typed, reaches_too_far, schema_in, is_clear_of, warnings_of}
use Rattle.cedar_gate_accepted.specs.Violations.{all_violations, AreViolationsOf}
use Rattle.cedar_gate_rules.specs.Policies.{policies_of}
use Rattle.cedar_schema_built.specs.Views.{schema_kept}
use Rattle.cedar_schema_built.specs.declared.schema.ValidatorSchema.{ValidatorSchema}
use Rattle.cedar_typechecker_policies.specs.Violations.{violation_told}
use Rattle.cedar_schema_model.specs.Schema.{Schema}
use Rattle.cedar_store_model.specs.Answer.{ids}
use Rattle.cedar_store_model.specs.Policy.{Policy}
use Rattle.cedar_store_parts.specs.Parts.{id_text}
use Rattle.cedar_store_parts.specs.declared.policy_id.PolicyID.{PolicyID}
use Rattle.cedar_store_policies.specs.declared.policy.Policy.{Policy as CodePolicy}
use Rattle.cedar_typechecker.specs.SchemaViews.{silent}
use Rattle.cedar_typechecker_model.specs.Verdicts.{RequestType, passes, impossible, irrelevant_for}
use Rattle.cedar_typechecker_model.specs.Alike.{AnswersAlike, HasSameSignatures}
use Rattle.cedar_typechecker_model.specs.Seen.{schema_seen}

-- The check says of these policies what is to be said of them.
pub record ChecksAll (n : ℕ) (s : Schema) (x : Table) (ps : List Policy) (c : Checked) : Type 0 where
  pub passes : c.passes ≡ list_all (passes s x) ps
  pub violations : map violation_told c.violations.items ≡ all_violations n s x ps
  pub warnings : map id_text c.warnings.items ≡ ids (filter (impossible s x) ps)

-- The submission has these policies and this level, a schema that answers as this one does, and a table of the same functions.
pub record IsTypedBy (t : Schema) (y : Table) (ps : List Policy) (n : ℕ) (s : Submission) : Type 0 where
  pub schema : AnswersAlike (schema_in s) t
  pub table : HasSameSignatures s.table y
  pub policies : s.policies ≡ ps
  pub level : s.level ≡ n

-- The check says whether the submission is clear of the faults of typing and of levels, and has the violations of its policies.
pub record IsJudgedBy (s : Submission) (c : Checked) : Type 0 where
  pub typed : is_clear_of ill_typed s ≡ c.passes
  pub near : is_clear_of reaches_too_far s ≡ is_nil c.violations.items
  pub violations : AreViolationsOf s c.violations.items

-- It has neither.
pub record IsClearOfTyping (s : Submission) : Type 0 where
  pub typed : is_clear_of ill_typed s ≡ true
  pub near : is_clear_of reaches_too_far s ≡ true

-- the ids of the policies that aren't irrelevant for a request's types
abbrev pub relevant_ids : Schema → Table → RequestType → List Policy → List Text
relevant_ids s x r ps = ids (filter (λ p. not (irrelevant_for s x r p)) ps)

-- What is found of some policies is found of these and one more.
abbrev pub ChecksOneMore : ℕ → Schema → Table → Policy → Checked → Checked → Type 0
ChecksOneMore n s x p old new = (ps : List Policy) → ChecksAll n s x ps old → ChecksAll n s x (ps ++ p ∷ []) new

-- It has these policies and this level, a schema that answers as this built one does, and a table of the same functions.
abbrev pub IsTypedWith : {B : _} {F : _} {g : _} → ValidatorSchema → Extensions B F g → List CodePolicy → ℕ → Submission → Type 0
IsTypedWith k x ps n s = IsTypedBy (schema_seen (schema_kept k)) (table_of x silent) (policies_of ps) n s

-- The ids are those of the policies to warn of.
abbrev pub WarnsOf : Submission → Vec PolicyID Global → Type 0
WarnsOf s ws = map id_text ws.items ≡ warnings_of s

-- To the ids these are appended.
abbrev pub AddsIds : Vec PolicyID Global → Vec PolicyID Global → List Text → Type 0
AddsIds old new more = map id_text new.items ≡ map id_text old.items ++ more
