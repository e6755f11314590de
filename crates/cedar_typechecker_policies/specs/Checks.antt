-- What the check of a policy in an environment says.
-- Rule: the acceptance rules; typing (docs/RULES.md).
use Rattle.std.specs.Prelude.{◌≡◌, ◌&&◌, Bool, true, false, List, [], None, MatchOption}
use Rattle.std.specs.List.{list_all}
use Rattle.std.specs.Str.{bytes_eq}
use Rattle.cedar_expr_model.specs.Lists.{is_nil}
use Rattle.cedar_expr_model.specs.Name.{Text}
use Rattle.cedar_expr_model.specs.Tree.{Tree}
use Rattle.cedar_store_model.specs.Policy.{Policy, condition}
use Rattle.cedar_store_parts.specs.Parts.{id_text}
use Rattle.cedar_store_parts.specs.declared.diagnostics.ValidationError.{ValidationError}
use Rattle.cedar_typechecker_answers.specs.Kinds.{is_typing_kind}
use Rattle.cedar_typechecker_policies.specs.Conditions.{IsTypedAs, IsVerdictOf}
use Rattle.cedar_typechecker_model.specs.Facts.{no_facts}
use Rattle.cedar_typechecker_model.specs.Rules.{Setting}
use Rattle.cedar_typechecker_model.specs.Typing.{type_of}
use Rattle.cedar_typechecker_model.specs.Verdicts.{Verdict, success, irrelevant, fail, verdict_of, HasVerdict}
use Rattle.cedar_typechecker_policies.specs.declared.check.PolicyCheck.{PolicyCheck}
use Rattle.cedar_typechecker_policies.specs.declared.check.PolicyCheck.TheVariants.{Success, Irrelevant, Fail}
use Rattle.cedar_typechecker_policies.specs.declared.checked.Checked.{Checked}
use Rattle.cedar_typechecker_model.specs.Typed.{typed}

-- whether the error is one of typing, of the policy of this id
abbrev pub is_error_of : Text → ValidationError → Bool
is_error_of id e = bytes_eq id (id_text e.policy_id) && is_typing_kind e.kind

abbrev pub verdict_seen : PolicyCheck → Verdict
verdict_seen (Success e) = success
verdict_seen (Irrelevant es e) = irrelevant
verdict_seen (Fail es) = fail

abbrev pub is_passing : Verdict → Bool
is_passing fail = false
is_passing v = true

abbrev pub is_irrelevant : Verdict → Bool
is_irrelevant irrelevant = true
is_irrelevant v = false

-- errors of typing, each of the policy of this id
abbrev pub AreErrorsOf : Text → List ValidationError → Type 0
AreErrorsOf id es = list_all (is_error_of id) es ≡ true

-- A condition, typed: with the types of its parts if it has one, the verdict of its type, and something wrong, of this policy, exactly where
-- it has no type of truth values.
pub record IsChecked (s : Setting) (t : Tree) (id : Text) (c : Checked) : Type 0 where
  pub typed : MatchOption c.typed (typed s no_facts t ≡ None) (IsTypedAs s t)
  pub verdict : IsVerdictOf (type_of s t) c.verdict
  pub policy : list_all (is_error_of id) c.errors.items ≡ true
  pub errors : is_nil c.errors.items ≡ c.verdict.is_bool

-- The expression that a check holds is the tree with the types of its parts.
abbrev pub HoldsTyped : Setting → Tree → PolicyCheck → Type 0
HoldsTyped s t (Success e) = IsTypedAs s t e
HoldsTyped s t (Irrelevant es e) = IsTypedAs s t e
HoldsTyped s t (Fail es) = Unit {0}

abbrev pub errors_in : PolicyCheck → List ValidationError
errors_in (Success e) = []
errors_in (Irrelevant es e) = es.items
errors_in (Fail es) = es.items

-- The check of a policy of this id with this condition: its verdict is that of the condition's type, and there is something wrong, of this
-- policy, exactly where it fails.
pub record CheckSays (s : Setting) (t : Tree) (id : Text) (c : PolicyCheck) : Type 0 where
  pub verdict : verdict_of (type_of s t) ≡ verdict_seen c
  pub typed : HoldsTyped s t c
  pub policy : list_all (is_error_of id) (errors_in c) ≡ true
  pub errors : is_nil (errors_in c) ≡ is_passing (verdict_seen c)

-- the check of a policy
abbrev pub IsCheckOf : Setting → Policy → PolicyCheck → Type 0
IsCheckOf s p = CheckSays s (condition p) p.id

-- the check has the verdict on the condition of the policy
abbrev pub IsVerdictOn : Setting → Policy → PolicyCheck → Type 0
IsVerdictOn s p c = HasVerdict s (condition p) (verdict_seen c)
