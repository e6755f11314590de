-- The answer of an expression by the answers of its parts and its judgement.
-- Rule: typing (docs/RULES.md).
use Rattle.std.specs.Prelude.{◌≡◌, Option, option_map, option_and_then}
use Rattle.cedar_expr_model.specs.Tree.{Tree}
use Rattle.cedar_expr_trees.specs.Trees.{tree_of}
use Rattle.cedar_expr_trees.specs.declared.expr.Expr.{Expr}
use Rattle.cedar_schema_types.specs.declared.types.Type.{«Type» as CodeType}
use Rattle.cedar_typechecker_model.specs.Typed.{Typed, noted, two, three, blank}
use Rattle.cedar_typechecker_model.specs.Typing.{Judgement}
use Rattle.cedar_typechecker_answers.specs.Answers.{seen, judgement_seen}
use Rattle.cedar_typechecker_answers.specs.Marked.{marks_of}
use Rattle.cedar_typechecker_answers.specs.declared.answer.Judged.{Judged}
use Rattle.cedar_typechecker_answers.specs.declared.answer.TypecheckAnswer.{TypecheckAnswer}

-- The code judgement is this judgement, if there is one.
abbrev pub Judges : Option Judgement → Option Judged → Type 0
Judges j c = option_map judgement_seen c ≡ j

-- an expression of two typed parts, of two of which the second isn't typed, and of three typed parts
abbrev pub node_of_two : (Tree → Tree → Tree) → Expr (Option CodeType) → Expr (Option CodeType) → Option Judgement → Option Typed
node_of_two make a b j = noted (make (tree_of a) (tree_of b)) (two (marks_of a) (marks_of b)) j

abbrev pub node_of_first : (Tree → Tree → Tree) → Expr (Option CodeType) → Tree → Option Judgement → Option Typed
node_of_first make a b j = noted (make (tree_of a) b) (two (marks_of a) (blank b)) j

abbrev pub node_of_three : (Tree → Tree → Tree → Tree) → Expr (Option CodeType) → Expr (Option CodeType) → Expr (Option CodeType) → Option Judgement → Option Typed
node_of_three make a b c j = noted (make (tree_of a) (tree_of b) (tree_of c)) (three (marks_of a) (marks_of b) (marks_of c)) j

-- what two typed parts give, and what three give, where all have types
abbrev pub by_two : (Typed → Typed → Option Typed) → TypecheckAnswer → TypecheckAnswer → Option Typed
by_two give a b = option_and_then (λ x. option_and_then (give x) (seen b)) (seen a)

abbrev pub by_three : (Typed → Typed → Typed → Option Typed) → TypecheckAnswer → TypecheckAnswer → TypecheckAnswer → Option Typed
by_three give a b c = option_and_then (λ x. option_and_then (λ y. option_and_then (give x y) (seen c)) (seen b)) (seen a)
