-- Whether an expression has unknowns, and what holds of each of them.
-- Rule: parts of an expression (docs/RULES.md).
use Rattle.std.specs.Prelude.{Bool, Option, is_some, Contains}
use Rattle.std.specs.List.{list_any}
use Rattle.cedar_expr_model.specs.Name.{Text}
use Rattle.cedar_expr_model.specs.Tree.{CoreType, Tree}
use Rattle.cedar_expr_model.specs.Parts.{subexpressions, Unknown, unknown_here, unknowns}

-- an unknown stands somewhere in the expression
abbrev pub has_unknown : Tree → Bool
has_unknown t = list_any (λ e. is_some (unknown_here e)) (subexpressions t)

-- This holds of the name and annotation of each unknown in the expression.
abbrev pub EachUnknown : (Text → Option CoreType → Type 0) → Tree → Type 0
EachUnknown P t = (u : Unknown) → Contains (unknowns t) u → P u.name u.annotation
