-- What an answer holds.
-- Rule: typing (docs/RULES.md).
use Rattle.std.specs.Prelude.{◌≡◌, Bool, true, false, Option, Some, None, option_and_then}
use Rattle.cedar_expr_trees.specs.Trees.{data_of}
use Rattle.cedar_expr_trees.specs.declared.expr.Expr.{Expr}
use Rattle.cedar_schema_types.specs.declared.types.Type.{«Type» as CodeType}
use Rattle.cedar_typechecker_environments.specs.Facts.{facts_of}
use Rattle.cedar_typechecker_environments.specs.declared.facts.CapabilitySet.{CapabilitySet}
use Rattle.cedar_typechecker_answers.specs.Answers.{seen, typed_at}
use Rattle.cedar_typechecker_answers.specs.declared.answer.TypecheckAnswer.{TypecheckAnswer}
use Rattle.cedar_typechecker_answers.specs.declared.answer.TypecheckAnswer.TheVariants.{Success, Fail}

-- whether it has a type
abbrev pub has_type : TypecheckAnswer → Bool
has_type (Success e c) = true
has_type (Fail e) = false

-- the expression that it holds, and its annotation
abbrev pub held : TypecheckAnswer → Option (Expr (Option CodeType))
held (Success e c) = Some e
held (Fail o) = o

abbrev pub root_type : TypecheckAnswer → Option CodeType
root_type a = option_and_then (λ e. data_of e) (held a)

-- the answer with facts that the function may make of its own
abbrev pub MapsFacts : (CapabilitySet → CapabilitySet → Type 0) → TypecheckAnswer → TypecheckAnswer → Type 0
MapsFacts post (Success e c) a = (d : CapabilitySet) × post c d × (seen a ≡ typed_at e (facts_of d) e.«data»)
MapsFacts post (Fail o) a = seen a ≡ None
