-- What typing answers, as the model's.
-- Rule: typing (docs/RULES.md).
use Rattle.std.specs.Prelude.{Option, Some, None, option_map}
use Rattle.cedar_expr_trees.specs.Trees.{tree_of}
use Rattle.cedar_expr_trees.specs.declared.expr.Expr.{Expr}
use Rattle.cedar_schema_types.specs.Types.{type_of}
use Rattle.cedar_schema_types.specs.declared.types.Type.{«Type» as CodeType}
use Rattle.cedar_typechecker_environments.specs.Facts.{facts_of}
use Rattle.cedar_typechecker_model.specs.Facts.{Facts, no_facts, union}
use Rattle.cedar_typechecker_model.specs.Typing.{Judgement, judged}
use Rattle.cedar_typechecker_model.specs.Typed.{Typed, conjoined_by, disjoined_by}
use Rattle.cedar_typechecker_answers.specs.Marked.{kind_marks}
use Rattle.cedar_typechecker_answers.specs.declared.answer.TypecheckAnswer.{TypecheckAnswer}
use Rattle.cedar_typechecker_answers.specs.declared.answer.TypecheckAnswer.TheVariants.{Success, Fail}
use Rattle.cedar_typechecker_answers.specs.declared.answer.Judged.{Judged}

-- an expression with the types of its parts, if it has a type
abbrev pub typed_at : Expr (Option CodeType) → Facts → Option CodeType → Option Typed
typed_at e f None = None
typed_at e f (Some t) = Some (record { type = type_of t; facts = f; at = tree_of e; below = kind_marks e.expr_kind })

abbrev pub seen : TypecheckAnswer → Option Typed
seen (Success e c) = typed_at e (facts_of c) e.«data»
seen (Fail e) = None

-- a type and facts
abbrev pub judgement_seen : Judged → Judgement
judgement_seen j = record { type = type_of j.ty; facts = facts_of j.known }

-- what holds where both expressions are true, if both have types
abbrev pub known_of_both : TypecheckAnswer → TypecheckAnswer → Facts
known_of_both (Success e c) (Success f d) = union (facts_of c) (facts_of d)
known_of_both (Success e c) (Fail f) = no_facts
known_of_both (Fail e) a = no_facts

-- the type of a branch that is taken, and what holds then, where the test and the branch have types
abbrev pub branch_judged : Option CodeType → Option CodeType → Facts → Option Judgement
branch_judged (Some t) (Some u) f = judged (type_of u) f
branch_judged (Some t) None f = None
branch_judged None u f = None

-- the judgement of a conjunction of typed sides, and of a disjunction of sides where both have types
abbrev pub and_judged : Typed → Typed → Option Judgement
and_judged x y = conjoined_by x.type x.facts y.type y.facts

abbrev pub or_judged : Option CodeType → Facts → Option CodeType → Facts → Option Judgement
or_judged (Some t) f (Some u) g = disjoined_by (type_of t) f (type_of u) g
or_judged (Some t) f None g = None
or_judged None f u g = None
