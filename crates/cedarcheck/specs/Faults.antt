-- Which faults a submission has, by their numbers.
-- Rule: the acceptance rules; statuses and refusal numbers (docs/RULES.md).
use Rattle.std.specs.Prelude.{◌≡◌, ℕ, List, [], ◌∷◌, Option, map}
use Rattle.cedar_gate_model.specs.Acceptance.{Submission, Cause, HasFault, number_of}
use Rattle.cedarcheck.specs.declared.findings.Finding.{Finding}

-- The submission has a fault of this number.
abbrev pub HasNumber : Submission → ℕ → Type 0
HasNumber s n = (c : Cause) × HasFault c s × (number_of c ≡ n)

-- It has a fault of each of these numbers.
abbrev pub HasNumbers : Submission → List ℕ → Type 0
HasNumbers s [] = Unit {0}
HasNumbers s (n ∷ ns) = HasNumber s n × HasNumbers s ns

-- If it has a fault of each of the first numbers, it has one of each of the others.
abbrev pub KeepsNumbers : Submission → List ℕ → List ℕ → Type 0
KeepsNumbers s old new = HasNumbers s old → HasNumbers s new

-- the numbers of what is found
abbrev pub numbers_in : List Finding → List ℕ
numbers_in fs = map (λ f. f.number) fs
