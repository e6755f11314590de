-- What is made of the parts of an expression, of which anything may have been made or refused.
-- Rule: expressions (docs/RULES.md).
use Rattle.std.specs.Prelude.{◌≡◌, IfOk, IfErr}
use Rattle.std.specs.declared.result.Result.{Result}
use Rattle.std.specs.declared.result.Result.TheVariants.{Ok}
use Rattle.cedar_expr_builders.specs.Refusing.{and_then}
use Rattle.cedar_expr_builders.specs.declared.err.BuildFault.{BuildFault}
use Rattle.cedar_expr_substitution.specs.Outcome.{Refuses}

-- What was made is the outcome.
abbrev pub Means : {A E M R : Type 0} → (A → M) → Result M R → Result A E → Type 0
Means means o q = IfOk q (λ x. o ≡ Ok (means x))

-- What was refused is the outcome.
abbrev pub Tells : {A E M R : Type 0} → (E → R) → Result M R → Result A (BuildFault E) → Type 0
Tells says o q = IfErr q (λ f. Refuses says o f)

-- Of parts of any outcome, what is made is what the step makes of it.
abbrev pub StepMakes : {A B E F M N R : Type 0} → (A → M) → (B → N) → (M → Result N R) → Result A E → Result B F → Type 0
StepMakes {M = M} {R = R} part whole step q r = (o : Result M R) → Means part o q → Means whole (and_then step o) r

-- Of parts of any outcome, what is refused is what the step refuses of it.
abbrev pub StepRefuses : {A B E M N R : Type 0} → (A → M) → (E → R) → (M → Result N R) → Result A (BuildFault E) → Result B (BuildFault E) → Type 0
StepRefuses {M = M} {R = R} part says step q r = (o : Result M R) → Means part o q → Tells says o q → Tells says (and_then step o) r

-- the outcome of two in turn, and of three
abbrev pub two_made : {M R : Type 0} → Result M R → Result M R → Result (M × M) R
two_made o p = and_then (λ x. and_then (λ y. Ok (x, y)) p) o

abbrev pub three_made : {M R : Type 0} → Result M R → Result M R → Result M R → Result (M × M × M) R
three_made o p q = and_then (λ t. and_then (λ z. Ok (t.0, t.1, z)) q) (two_made o p)

-- what each of two means, and of three
abbrev pub of_two : {A M : Type 0} → (A → M) → A × A → M × M
of_two means p = (means p.0, means p.1)

abbrev pub of_three : {A M : Type 0} → (A → M) → A × A × A → M × M × M
of_three means p = (means p.0, means p.1, means p.2)
