-- Verdicts on conditions with which nothing is wrong.
-- Rule: the acceptance rules; levels (docs/RULES.md).
use Rattle.std.specs.Prelude.{◌≡◌, ℕ, [], true, Option, MatchOption}
use Rattle.cedar_expr_model.specs.Tree.{Tree}
use Rattle.cedar_typechecker_model.specs.Rules.{Setting}
use Rattle.cedar_typechecker_model.specs.Typing.{type_of}
use Rattle.cedar_typechecker_policies.specs.Conditions.{IsVerdictOf}
use Rattle.cedar_typechecker_policies.specs.Violations.{violated_by}
use Rattle.cedar_typechecker_policies.specs.declared.verdict.Verdict.{Verdict}

-- The verdict is that of the expression's type, which is one of truth values, and there is no violation at the level, if one is given.
pub record IsClearVerdict (n : Option ℕ) (s : Setting) (t : Tree) (v : Verdict) : Type 0 where
  pub verdict : IsVerdictOf (type_of s t) v
  pub bools : v.is_bool ≡ true
  pub within : violated_by n s t ≡ []

abbrev pub IsClearVerdictIfAny : Option ℕ → Setting → Tree → Option Verdict → Type 0
IsClearVerdictIfAny n s t o = MatchOption o (Unit {0}) (IsClearVerdict n s t)
