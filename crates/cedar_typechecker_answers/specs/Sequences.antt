-- What answers one after the other hand on.
-- Rule: typing (docs/RULES.md).
use Rattle.std.specs.Prelude.{◌≡◌, Bool, List, Option, Some, None, is_some}
use Rattle.std.specs.Bool.{MatchBool}
use Rattle.std.specs.List.{AllZip, list_all}
use Rattle.std.specs.declared.alloc.Global.{Global}
use Rattle.std.specs.declared.vec.Vec.{Vec}
use Rattle.cedar_expr_trees.specs.declared.expr.Expr.{Expr}
use Rattle.cedar_schema_types.specs.declared.types.Type.{«Type» as CodeType}
use Rattle.cedar_typechecker_answers.specs.Answers.{seen}
use Rattle.cedar_typechecker_answers.specs.Surface.{held, has_type}
use Rattle.cedar_typechecker_answers.specs.declared.answer.TypecheckAnswer.{TypecheckAnswer}
use Rattle.cedar_typechecker_answers.specs.declared.answer.TypecheckAnswer.TheVariants.{Success, Fail}
use Rattle.cedar_typechecker_environments.specs.Facts.{facts_of}
use Rattle.cedar_typechecker_environments.specs.declared.facts.CapabilitySet.{CapabilitySet}
use Rattle.cedar_typechecker_model.specs.Facts.{no_facts}

-- an expression with the types of its parts, and facts
abbrev pub Handed : Type 0
Handed = Expr (Option CodeType) × CapabilitySet

-- whether it holds an expression
abbrev pub holds : TypecheckAnswer → Bool
holds a = is_some (held a)

-- The expression of an answer and its facts: none where it has no type.
abbrev pub IsHanded : TypecheckAnswer → Handed → Type 0
IsHanded (Success e c) p = (p.0 ≡ e) × (p.1 ≡ c)
IsHanded (Fail (Some e)) p = (p.0 ≡ e) × (facts_of p.1 ≡ no_facts)
IsHanded (Fail None) p = ⊥

-- an answer that has no type, with the expression of the other
abbrev pub FailsAs : TypecheckAnswer → TypecheckAnswer → Type 0
FailsAs b a = (seen a ≡ None) × (held a ≡ held b)

-- What the function answers of the expression, and without type if the answer before had none. Without an expression there is none.
abbrev pub ThenTypes : (Expr (Option CodeType) → CapabilitySet → TypecheckAnswer → Type 0) → TypecheckAnswer → TypecheckAnswer → Type 0
ThenTypes post (Success e c) a = post e c a
ThenTypes post (Fail (Some e)) a = (d : CapabilitySet) × (b : TypecheckAnswer) × (facts_of d ≡ no_facts) × post e d b × FailsAs b a
ThenTypes post (Fail None) a = seen a ≡ None

-- What the function answers of all their expressions, and without type if one of them had none. Where one holds no expression there is none.
abbrev pub Sequences : (Vec Handed Global → TypecheckAnswer → Type 0) → List TypecheckAnswer → TypecheckAnswer → Type 0
Sequences post as_ a = MatchBool (list_all holds as_)
    ((ps : Vec Handed Global) × (b : TypecheckAnswer) × AllZip IsHanded as_ ps.items × post ps b × MatchBool (list_all has_type as_) (a ≡ b) (FailsAs b a))
    (seen a ≡ None)
