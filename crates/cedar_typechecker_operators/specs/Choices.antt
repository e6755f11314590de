-- Choices whose branches are both typed.
-- Rule: typing (docs/RULES.md).
use Rattle.std.specs.Prelude.{Option, None, option_and_then}
use Rattle.cedar_expr_model.specs.Tree.{choice}
use Rattle.cedar_expr_trees.specs.Trees.{tree_of}
use Rattle.cedar_expr_trees.specs.declared.expr.Expr.{Expr}
use Rattle.cedar_schema_types.specs.declared.types.Type.{«Type» as CodeType}
use Rattle.cedar_typechecker_model.specs.Facts.{union}
use Rattle.cedar_typechecker_model.specs.Rules.{Setting}
use Rattle.cedar_typechecker_model.specs.Typing.{Judgement, chosen}
use Rattle.cedar_typechecker_model.specs.Typed.{Typed, noted, three}
use Rattle.cedar_typechecker_answers.specs.Marked.{marks_of}
use Rattle.cedar_typechecker_answers.specs.declared.answer.TypecheckAnswer.{TypecheckAnswer}
use Rattle.cedar_typechecker_answers.specs.declared.answer.TypecheckAnswer.TheVariants.{Success, Fail}

-- the judgement of a choice by its typed test and branches, if all are typed
abbrev pub chosen_judged : Setting → Option Typed → Option Typed → Option Typed → Option Judgement
chosen_judged s p q r = option_and_then (λ x. option_and_then (λ y. option_and_then (λ z. chosen s y.type (union x.facts y.facts) z.type z.facts) r) q) p

-- the answer of a choice of this test by the answers of its branches and its judgement
abbrev pub chosen_noted : Expr (Option CodeType) → TypecheckAnswer → TypecheckAnswer → Option Judgement → Option Typed
chosen_noted e (Success f c) (Success g d) j = noted (choice (tree_of e) (tree_of f) (tree_of g)) (three (marks_of e) (marks_of f) (marks_of g)) j
chosen_noted e (Success f c) (Fail g) j = None
chosen_noted e (Fail f) b j = None

-- the same of the answer of the test
abbrev pub chosen_seen : TypecheckAnswer → TypecheckAnswer → TypecheckAnswer → Option Judgement → Option Typed
chosen_seen (Success e c) a b j = chosen_noted e a b j
chosen_seen (Fail e) a b j = None
