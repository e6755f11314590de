-- What the steps of the walk along a text and a pattern do.
-- Rule: patterns (docs/RULES.md).
use Rattle.std.specs.Prelude.{◌≡◌, ℕ, Bool, false, List, [], ◌∷◌, Option, Some, None}
use Rattle.std.specs.Str.{chars}
use Rattle.cedar_expr_model.specs.Pattern.{Pattern, character, wildcard, matches, after_some}
use Rattle.cedar_expr_leaves.specs.declared.pattern.PatternElem.{PatternElem}
use Rattle.cedar_expr_leaves.specs.declared.matching.Retry.{Retry}
use Rattle.cedar_expr_leaves.specs.declared.matching.Turn.{Turn}
use Rattle.cedar_expr_leaves.specs.declared.matching.Turn.TheVariants.{Takes, Skips, Fails}
use Rattle.cedar_expr_leaves.specs.Patterns.{elements_of}

-- the pattern matches what is left after some beginning that is not empty
abbrev pub matches_later : Pattern → List ℕ → Bool
matches_later p [] = false
matches_later p (c ∷ cs) = after_some (matches p) cs

-- the retry would match from a later character on
abbrev pub back_of : Option Retry → Bool
back_of None = false
back_of (Some r) = matches_later (elements_of r.elems.now) (chars r.from.now)

-- what the first element does with a character
abbrev pub IsTurn : List PatternElem → ℕ → Turn → Type 0
IsTurn es c (Takes others) = elements_of es ≡ character c ∷ elements_of others.now
IsTurn es c (Skips others) = elements_of es ≡ wildcard ∷ elements_of others.now
IsTurn es c Fails = (cs : List ℕ) → matches (elements_of es) (c ∷ cs) ≡ false

-- the retry that begins one character later
abbrev pub AdvancesTo : Option Retry → Option Retry → Type 0
AdvancesTo before None = back_of before ≡ false
AdvancesTo None (Some r) = ⊥
AdvancesTo (Some q) (Some r) = (c : ℕ) × (chars q.from.now ≡ c ∷ chars r.from.now) × (elements_of r.elems.now ≡ elements_of q.elems.now)
