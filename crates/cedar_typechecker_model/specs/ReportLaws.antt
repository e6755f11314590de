-- What a walk meets are the violations of a typed expression.
-- Rule: levels (docs/RULES.md).
use Rattle.std.specs.Prelude.{◌≡◌, ◌<◌, ℕ}
use Rattle.cedar_expr_model.specs.Tree.{Tree}
use Rattle.cedar_typechecker_model.specs.Rules.{Setting}
use Rattle.cedar_typechecker_model.specs.Typed.{Marks}
use Rattle.cedar_typechecker_model.specs.Counts.{violations_at}
use Rattle.cedar_typechecker_model.specs.Reported.{reported}

-- at each level of 32 bits a walk reports the violations of the expression
abbrev pub ReportedAreViolations : Type 0
ReportedAreViolations = (n : ℕ) (s : Setting) (t : Tree) (m : Marks) → n < 4294967296 → reported n s t m ≡ violations_at n s t m
