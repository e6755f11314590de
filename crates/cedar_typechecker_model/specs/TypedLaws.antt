-- A typed expression has the type and the facts that are judged, is the expression itself, and is counted by the types of its parts.
-- Rule: typing; levels (docs/RULES.md).
use Rattle.std.specs.Prelude.{◌≡◌, ℕ, Some, option_map}
use Rattle.cedar_expr_model.specs.Tree.{Tree}
use Rattle.cedar_typechecker_model.specs.Facts.{Facts}
use Rattle.cedar_typechecker_model.specs.Rules.{Setting}
use Rattle.cedar_typechecker_model.specs.Typing.{Judgement, judgement}
use Rattle.cedar_typechecker_model.specs.Levels.{violations}
use Rattle.cedar_typechecker_model.specs.Typed.{Typed, typed, marked}
use Rattle.cedar_typechecker_model.specs.Counts.{violations_at}

abbrev pub judgement_of : Typed → Judgement
judgement_of x = record { type = x.type; facts = x.facts }

abbrev pub TypedAsJudged : Type 0
TypedAsJudged = (s : Setting) (known : Facts) (t : Tree) → option_map judgement_of (typed s known t) ≡ judgement s known t

abbrev pub SameTree : Type 0
SameTree = (s : Setting) (known : Facts) (t : Tree) (x : Typed) → typed s known t ≡ Some x → x.at ≡ t

abbrev pub CountedOnMarks : Type 0
CountedOnMarks = (n : ℕ) (s : Setting) (known : Facts) (t : Tree) (x : Typed) → typed s known t ≡ Some x → violations_at n s t (marked x) ≡ violations n s known t
