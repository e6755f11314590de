-- What a builder makes of an expression where something stands in the place of its unknowns, and what a fault says of it.
-- Rule: expressions; substitution (docs/RULES.md).
use Rattle.std.specs.Prelude.{◌≡◌, List, Option, Some, None}
use Rattle.std.specs.declared.result.Result.{Result}
use Rattle.std.specs.declared.result.Result.TheVariants.{Err}
use Rattle.cedar_expr_model.specs.Name.{Text, Name}
use Rattle.cedar_expr_model.specs.Tree.{CoreType, Tree}
use Rattle.cedar_expr_model.specs.Builder.{Builder, built}
use Rattle.cedar_expr_builders.specs.Refusing.{refusing}
use Rattle.cedar_expr_builders.specs.declared.err.BuildFault.{BuildFault}
use Rattle.cedar_expr_builders.specs.declared.err.BuildFault.TheVariants.{OutOfMemory, Refused}

-- the builder that makes of an unknown what it makes of the expression in its place
abbrev pub with_placed : {B : Type 0} → Builder B → (Text → Option CoreType → Tree) → Builder B
with_placed b placed = record b { of_unknown = λ n a. built b (placed n a) }

-- the builder that refuses these calls, and makes of an unknown what it makes of the expression in its place
abbrev pub placing : {M R : Type 0} → Builder M → (Name → List M → Option R) → (Text → Option CoreType → Tree) → Builder (Result M R)
placing b refuses placed = with_placed (refusing b refuses) placed

-- what it makes of an expression
abbrev pub built_placed : {M R : Type 0} → Builder M → (Name → List M → Option R) → (Text → Option CoreType → Tree) → Tree → Result M R
built_placed b refuses placed t = built (placing b refuses placed) t

-- The refusal that a fault tells. Out of memory tells none.
abbrev pub told : {E R : Type 0} → (E → R) → BuildFault E → Option R
told says OutOfMemory = None
told says (Refused e) = Some (says e)

-- What the fault tells is the outcome.
abbrev pub Refuses : {E M R : Type 0} → (E → R) → Result M R → BuildFault E → Type 0
Refuses {R = R} says o f = (r : R) → told says f ≡ Some r → o ≡ Err r
