-- Patterns of texts.
-- Rule: patterns (docs/RULES.md).
use Rattle.std.specs.Prelude.{◌≡◌, ◌&&◌, ◌||◌, ◌==◌, ℕ, List, [], ◌∷◌, ◌++◌, Bool, true, false}
use Rattle.std.specs.Str.{chars}
use Rattle.cedar_expr_model.specs.Name.{Text}

-- an element of a pattern: a character, or a wildcard for any characters
pub data Element : Type 0 where
  character : ℕ → Element
  wildcard : Element

abbrev pub Pattern : Type 0
Pattern = List Element

-- The pattern matches these characters: a character itself, a wildcard any beginning of what is left.
abbrev pub Matches : Pattern → List ℕ → Type 0
Matches [] cs = cs ≡ []
Matches (character c ∷ p) [] = ⊥
Matches (character c ∷ p) (d ∷ cs) = (c ≡ d) × Matches p cs
Matches (wildcard ∷ p) cs = (skipped : List ℕ) × (rest : List ℕ) × (cs ≡ skipped ++ rest) × Matches p rest

-- the test holds of what is left after some beginning
abbrev pub after_some : (List ℕ → Bool) → List ℕ → Bool
after_some test [] = test []
after_some test (c ∷ cs) = test (c ∷ cs) || after_some test cs

-- whether the pattern matches these characters
abbrev pub matches : Pattern → List ℕ → Bool
matches [] [] = true
matches [] (c ∷ cs) = false
matches (character c ∷ p) [] = false
matches (character c ∷ p) (d ∷ cs) = (c == d) && matches p cs
matches (wildcard ∷ p) cs = after_some (matches p) cs

-- the pattern matches the text
abbrev pub matches_text : Pattern → Text → Bool
matches_text p s = matches p (chars s)
