-- What the laws of substitution say.
-- Rule: substitution (docs/RULES.md).
use Rattle.std.specs.Prelude.{◌≡◌}
use Rattle.std.specs.Option.{option_or}
use Rattle.cedar_expr_model.specs.Tree.{Tree}
use Rattle.cedar_expr_model.specs.Substitution.{Bindings, substituted}

-- the bindings of both; of a name that both bind those of the first
abbrev pub first_of_both : Bindings → Bindings → Bindings
first_of_both e f = λ n. option_or (e n) (f n)

-- to substitute by one map and then by another is to substitute once by both
abbrev pub SubstitutesOnce : Type 0
SubstitutesOnce = (e f : Bindings) (t : Tree) → substituted f (substituted e t) ≡ substituted (first_of_both e f) t
